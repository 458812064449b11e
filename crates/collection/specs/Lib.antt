pub mod Collection
pub mod inner
