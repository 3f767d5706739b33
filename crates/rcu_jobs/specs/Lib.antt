pub mod Modes
pub mod Promised
pub mod Records
pub mod Refusals
