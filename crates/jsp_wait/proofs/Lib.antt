pub mod Seeking
pub mod Least
pub mod Numbered
pub mod Counting
pub mod Mapped
