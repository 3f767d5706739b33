pub mod Moving
pub mod Ends
pub mod Gathered
pub mod Parts
pub mod Closing
