pub mod Owed
pub mod Telling
pub mod Listening
pub mod Keyed
pub mod Hearing
pub mod Asked
pub mod Told
