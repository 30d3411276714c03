pub mod Chosen
pub mod RunSoFar
pub mod Sequences
pub mod Stepping
pub mod JudgedRequests
pub mod OnOffer
pub mod Stirred
