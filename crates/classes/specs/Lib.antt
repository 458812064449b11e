pub mod TokenClass
