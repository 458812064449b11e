pub mod AboveExamples
