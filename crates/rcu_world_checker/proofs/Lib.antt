pub mod Lists
pub mod Fitting
pub mod Settling
pub mod Deciding
