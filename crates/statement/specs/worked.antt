pub mod StatementExamples
