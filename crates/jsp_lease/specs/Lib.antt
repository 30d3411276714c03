pub mod Due
pub mod Granted
pub mod Leases
pub mod Tournament
pub mod Places
