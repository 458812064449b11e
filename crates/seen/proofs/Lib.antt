pub mod Fitting
pub mod SeenLaws
