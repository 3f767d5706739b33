pub mod Agreeing
pub mod Listing
