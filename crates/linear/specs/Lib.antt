pub mod Pivot
pub mod Rows
