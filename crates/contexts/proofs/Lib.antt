pub mod Clauses
pub mod Coded
pub mod Fitting
pub mod Given
