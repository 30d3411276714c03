pub mod Asking
mod Batching
pub mod Refusing
