pub mod ItemLaws
