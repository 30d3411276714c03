pub mod Counts
pub mod History
pub mod Calls
pub mod Eras
pub mod Parts
