pub mod Cancelling
pub mod Greeting
pub mod Judging
pub mod Telling
