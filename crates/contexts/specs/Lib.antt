pub mod Context
pub mod PathRules
pub mod Trailing
pub mod inner
