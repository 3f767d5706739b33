pub mod Counting
pub mod Endings
pub mod Every
pub mod Gathers
pub mod Claims
pub mod Closings
pub mod Loads
pub mod OwnReports
