pub mod AllRootsExamples
pub mod NearestExamples
