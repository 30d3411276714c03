pub mod Finding
pub mod Handing
pub mod Keeping
pub mod Order
pub mod Parts
pub mod Posting
