pub mod ByRecord
