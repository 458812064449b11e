pub mod Classes
pub mod inner
