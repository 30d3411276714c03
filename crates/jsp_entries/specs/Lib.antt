pub mod Asking
pub mod Declaring
pub mod Giving
pub mod Searching
pub mod Writing
