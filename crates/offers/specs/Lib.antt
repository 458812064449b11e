pub mod WithNames
pub mod worked
