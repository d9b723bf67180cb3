pub mod Telling
pub mod Choosing
pub mod Recursion
pub mod Tracing
pub mod Rows
