pub mod AllRoots
pub mod Counts
pub mod Covers
pub mod DeepestQuery
pub mod Entries
pub mod Exact
pub mod Nearest
pub mod SeenRoots
