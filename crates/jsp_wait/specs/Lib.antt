pub mod Waiting
pub mod Storage
pub mod Sessions
pub mod Sought
pub mod Offered
pub mod Sets
