pub mod Frame
pub mod Lines
pub mod inner
