pub mod References
pub mod inner
