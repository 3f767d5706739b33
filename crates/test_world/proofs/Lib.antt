pub mod AtRest
pub mod Sends
