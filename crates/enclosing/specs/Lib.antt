pub mod Enclosing
pub mod Offered
pub mod inner
