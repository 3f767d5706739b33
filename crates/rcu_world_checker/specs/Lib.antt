pub mod Fits
pub mod Kinds
pub mod Returns
