pub mod Stream
pub mod Unframer
pub mod Reading
pub mod Codec
