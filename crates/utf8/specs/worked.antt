pub mod Utf8Examples
