pub mod Quotes
pub mod worked
