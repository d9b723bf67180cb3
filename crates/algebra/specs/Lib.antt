pub mod Words
pub mod Reduced
pub mod Checks
pub mod Elimination
