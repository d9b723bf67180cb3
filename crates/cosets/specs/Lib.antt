pub mod States
pub mod Cosets
pub mod Weights
