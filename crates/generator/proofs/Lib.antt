pub mod Folding
pub mod Framing
pub mod Checking
pub mod Systematics
