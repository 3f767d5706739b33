pub mod Places
pub mod Order
pub mod Passing
pub mod Records
pub mod Callbacks
pub mod Kept
pub mod Recorded
