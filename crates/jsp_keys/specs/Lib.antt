pub mod Keys
pub mod Templates
