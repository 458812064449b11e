pub mod Gathers
pub mod Kinded
pub mod Nests
pub mod Runs
pub mod Steps
pub mod StartLaws
