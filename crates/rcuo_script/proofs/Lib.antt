pub mod Counting
pub mod Jobs
pub mod Written
pub mod Scripts
pub mod Known
pub mod Whole
mod Tables
mod Retirements
mod Budget
