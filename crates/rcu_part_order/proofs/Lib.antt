pub mod Keeping
pub mod Moves
pub mod Passing
pub mod Ordering
pub mod Merging
