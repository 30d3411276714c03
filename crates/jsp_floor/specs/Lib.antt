pub mod Ending
pub mod Served
pub mod Doors
pub mod Admissions
