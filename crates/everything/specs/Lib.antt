pub mod Everything
pub mod inner
