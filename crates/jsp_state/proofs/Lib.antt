pub mod Fitting
pub mod Scanning
pub mod Soonest
pub mod Testing
pub mod Unsatisfied
pub mod OnOffer
pub mod Stirred
pub mod Rising
