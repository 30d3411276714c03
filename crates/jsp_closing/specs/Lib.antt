pub mod Faults
pub mod Within
pub mod Asking
pub mod Writing
pub mod Lines
pub mod Leaving
pub mod Closing
pub mod Checked
