pub mod Zips
pub mod Kept
pub mod Tickets
pub mod Answering
pub mod Dealt
