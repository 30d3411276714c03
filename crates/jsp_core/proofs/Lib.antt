pub mod Offering
pub mod ByNumber
pub mod Searching
