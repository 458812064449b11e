pub mod Brackets
pub mod inner
pub mod worked
