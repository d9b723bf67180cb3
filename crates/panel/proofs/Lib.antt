pub mod Opening
pub mod Written
