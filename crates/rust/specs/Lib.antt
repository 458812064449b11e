pub mod BracketMatchingRs
pub mod CursorContextRs
pub mod Rust
pub mod ScopeRs
pub mod SemanticTokensRs
