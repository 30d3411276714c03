pub mod Recording
pub mod Decided
pub mod Left
