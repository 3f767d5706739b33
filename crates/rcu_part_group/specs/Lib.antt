pub mod Each
pub mod GroupLaw
pub mod Groups
