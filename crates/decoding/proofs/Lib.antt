pub mod Messages
pub mod Leading
pub mod Distances
