pub mod HandRuns
pub mod Standing
pub mod HandBegins
pub mod InOneTurn
pub mod InPlace
pub mod PassingOn
