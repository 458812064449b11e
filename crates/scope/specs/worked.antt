pub mod ClassExamples
pub mod ScopeExamples
