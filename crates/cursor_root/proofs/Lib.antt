pub mod RootLaws
pub mod Roots
