pub mod Above
pub mod inner
pub mod worked
