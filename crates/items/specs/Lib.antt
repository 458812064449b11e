pub mod Items
pub mod inner
