pub mod Runtimes
pub mod Calls
pub mod Turns
pub mod Waits
pub mod Ends
pub mod Faults
pub mod Passing
pub mod Settled
