pub mod Answering
pub mod Keeping
pub mod Presences
pub mod Returning
pub mod Seating
pub mod ShowingParts
pub mod Verbs
pub mod Writing
