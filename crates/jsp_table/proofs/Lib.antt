pub mod Rising
pub mod Next
pub mod Above
pub mod Standing
pub mod Finding
pub mod Changing
pub mod Places
