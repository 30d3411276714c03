pub mod Values
pub mod Beyond
mod WorkedKeys
