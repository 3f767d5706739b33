pub mod Numbers
pub mod Words
pub mod Limits
pub mod Sets
pub mod Shapes
