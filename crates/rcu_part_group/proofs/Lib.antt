pub mod GroupLists
pub mod GroupTurns
