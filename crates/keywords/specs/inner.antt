pub mod KeywordTable
