pub mod Fitting
pub mod Turns
pub mod WaitingLaws
