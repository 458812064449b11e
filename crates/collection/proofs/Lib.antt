pub mod Fitting
pub mod Quiet
pub mod Turns
