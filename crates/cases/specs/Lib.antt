pub mod worked
