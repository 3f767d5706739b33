pub mod Zipped
pub mod Placed
pub mod Keeping
pub mod Called
pub mod Gathered
