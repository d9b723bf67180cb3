pub mod Wording
pub mod Finding
pub mod Weighing
