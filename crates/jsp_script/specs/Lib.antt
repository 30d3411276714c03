pub mod Script
pub mod Audit
pub mod Print
pub mod Faults
pub mod Exit
