pub mod Changes
pub mod Outcomes
pub mod Presences
pub mod Printed
pub mod ScriptParts
pub mod Scripts
