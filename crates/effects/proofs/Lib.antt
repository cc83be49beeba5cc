pub mod Drafts
pub mod Counted
pub mod Joining
