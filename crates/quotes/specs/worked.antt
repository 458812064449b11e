pub mod QuoteExamples
