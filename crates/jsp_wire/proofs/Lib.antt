pub mod Loop
pub mod Pair
pub mod Payload
mod WorkedPayloads
pub mod Placed
pub mod Turns
pub mod Converted
