pub mod Accepting
pub mod Descending
pub mod Finding
pub mod Growing
pub mod Joining
pub mod NameMaps
pub mod Noting
pub mod Placing
