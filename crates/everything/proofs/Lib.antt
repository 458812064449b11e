pub mod EverythingLaws
pub mod Fitting
