pub mod Cases
pub mod Fit32
pub mod Verdicts
pub mod Writes
