pub mod CursorsLaws
pub mod Fitting
