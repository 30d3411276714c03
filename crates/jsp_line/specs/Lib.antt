pub mod Bytes
pub mod Slots
pub mod Seats
pub mod Notes
pub mod Writing
pub mod Reading
pub mod Turns
