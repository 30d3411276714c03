pub mod Refused
pub mod Printed
