pub mod Pairs
pub mod Stays
