pub mod Earliest
pub mod Unique
