pub mod Gathered
pub mod Plain
pub mod Rules
pub mod Starts
