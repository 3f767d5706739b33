pub mod Counting
pub mod Tickets
pub mod Waiting
pub mod Rounds
pub mod Urging
