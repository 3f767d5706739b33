pub mod RootLaw
pub mod SnapLaw
pub mod WordLaws
pub mod SetLaws
