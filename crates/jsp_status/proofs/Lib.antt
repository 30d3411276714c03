pub mod Numbers
pub mod Calls
pub mod Tags
pub mod Appended
