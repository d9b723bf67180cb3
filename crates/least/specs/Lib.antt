pub mod Paths
pub mod Least
pub mod Tables
