pub mod Parts
pub mod Dealing
pub mod Calls
pub mod Runs
pub mod Barriers
