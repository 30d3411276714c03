pub mod Streams
pub mod Readings
pub mod Pieces
pub mod Cutting
