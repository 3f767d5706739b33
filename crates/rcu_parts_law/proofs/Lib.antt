pub mod Accounting
pub mod Lawful
pub mod Sights
