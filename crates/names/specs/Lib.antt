pub mod Bindings
pub mod Names
