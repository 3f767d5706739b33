pub mod Answers
pub mod Asks
pub mod Driven
pub mod Ends
pub mod Shows
pub mod Works
