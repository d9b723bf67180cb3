pub mod States
pub mod Partial
pub mod Codewords
pub mod Weights
