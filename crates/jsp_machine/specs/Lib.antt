pub mod Changing
pub mod Judging
pub mod Places
pub mod Replay
pub mod Spaces
pub mod Posting
pub mod Unmarking
pub mod Stirring
