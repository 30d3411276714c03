pub mod Joining
pub mod Voting
pub mod Ending
