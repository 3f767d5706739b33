pub mod Marks
pub mod Histories
pub mod Ranks
pub mod Witness
pub mod ReadSections
