pub mod Order
pub mod Winning
pub mod Over
pub mod Playing
pub mod Standing
pub mod Adding
pub mod Examples
