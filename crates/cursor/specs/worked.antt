pub mod CursorExamples
