pub mod Exports
pub mod Words
