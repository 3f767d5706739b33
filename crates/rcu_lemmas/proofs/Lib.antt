pub mod All
pub mod Zips
pub mod Changed
