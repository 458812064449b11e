pub mod Cursors
pub mod worked
