pub mod Joining
pub mod Owing
pub mod Writing
pub mod Resetting
