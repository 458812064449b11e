pub mod CursorsExamples
