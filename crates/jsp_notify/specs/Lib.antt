pub mod Owing
pub mod Registered
pub mod Sought
pub mod Waiting
pub mod Hinted
pub mod News
pub mod Hearing
