pub mod Commas
pub mod Line
pub mod Totals
