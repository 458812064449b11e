pub mod Fitting
pub mod NameLaws
