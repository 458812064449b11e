pub mod Statement
pub mod inner
pub mod worked
