pub mod Words
pub mod Totals
