pub mod HandLaw
pub mod Hands
pub mod Begins
pub mod TwoSteps
pub mod InPlaceLaw
pub mod InPlace
