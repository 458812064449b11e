pub mod WithNamesExamples
