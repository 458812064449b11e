pub mod RootExamples
