pub mod Echoes
pub mod Kept
pub mod Company
pub mod Acts
pub mod Moves
