pub mod Offering
pub mod Numbering
