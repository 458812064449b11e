pub mod Root
pub mod worked
