pub mod Outcomes
pub mod Answers
pub mod Printed
pub mod Scripts
