pub mod Commands
pub mod Only
pub mod Padded
pub mod Parts
pub mod Symbols
pub mod Words
