pub mod Owing
pub mod Making
