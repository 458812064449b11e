pub mod AllRoots
pub mod Nearest
pub mod Reach
pub mod worked
