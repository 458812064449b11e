pub mod KeywordExamples
