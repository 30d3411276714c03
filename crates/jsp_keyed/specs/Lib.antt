pub mod Several
pub mod Finding
pub mod Kept
pub mod Changing
pub mod Coming
pub mod Ending
