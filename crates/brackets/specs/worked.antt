pub mod BracketExamples
