pub mod Numerals
pub mod Steps
pub mod Masks
pub mod Roots
