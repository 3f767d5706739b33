pub mod Keys
pub mod Steps
pub mod Words
