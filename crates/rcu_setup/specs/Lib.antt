pub mod Words
pub mod Faults
pub mod List
pub mod Line
pub mod Keys
pub mod Numbers
pub mod Arrays
pub mod Setup
