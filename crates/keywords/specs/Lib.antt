pub mod Keywords
pub mod inner
pub mod worked
