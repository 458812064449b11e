pub mod Seen
pub mod inner
