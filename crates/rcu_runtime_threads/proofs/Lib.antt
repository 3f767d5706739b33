pub mod Crews
pub mod Steps
pub mod Acting
pub mod Runs
pub mod Backs
pub mod Sends
pub mod Steered
