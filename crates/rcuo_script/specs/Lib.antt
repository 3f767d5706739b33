pub mod Calls
pub mod FaultLines
pub mod Faults
pub mod Lines
pub mod Scripts
pub mod Reading
pub mod Routes
pub mod Versions
