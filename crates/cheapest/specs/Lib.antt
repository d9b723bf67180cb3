pub mod Trellises
pub mod Cheapest
pub mod Lightest
