pub mod Ending
pub mod Coming
