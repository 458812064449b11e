pub mod Function
pub mod LastToken
pub mod inner
