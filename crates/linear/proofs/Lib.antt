pub mod Clearing
pub mod Closed
pub mod Made
pub mod Taken
