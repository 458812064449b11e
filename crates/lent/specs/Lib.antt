pub mod Fit32
pub mod Lists
pub mod Numbers
pub mod Verdicts
