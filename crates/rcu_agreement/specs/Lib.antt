pub mod Accounts
pub mod Agreement
pub mod Plain
pub mod ReadSections
