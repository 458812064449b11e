pub mod AboveLaws
pub mod Fitting
