pub mod Early
pub mod Sweeping
