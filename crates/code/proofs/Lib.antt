pub mod Holding
pub mod Standing
pub mod Sealing
pub mod Encoding
pub mod Leading
pub mod Checking
