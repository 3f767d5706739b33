pub mod Answering
pub mod Printing
pub mod Refusals
pub mod Showing
