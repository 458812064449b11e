pub mod BracketMatchingRs
pub mod Calls
pub mod CursorContextRs
pub mod KindLists
pub mod ScopeRs
pub mod SemanticTokensRs
pub mod Starts
pub mod Texts
