pub mod Fitting
pub mod Outboxes
pub mod Taking
