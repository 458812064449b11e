pub mod BracketStack
