pub mod Texts
pub mod Lengths
pub mod Ordered
pub mod Chains
