pub mod Drafts
pub mod Codes
pub mod Histories
pub mod Views
