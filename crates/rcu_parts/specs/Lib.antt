pub mod OneOpen
pub mod AtClose
pub mod Rooms
pub mod Ending
pub mod SameParts
pub mod Drained
pub mod Openings
