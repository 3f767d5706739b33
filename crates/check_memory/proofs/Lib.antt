pub mod Nonempty
pub mod Keeping
