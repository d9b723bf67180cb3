pub mod Decoding
pub mod Leaders
pub mod Distances
