pub mod Granting
pub mod Paging
pub mod Registering
