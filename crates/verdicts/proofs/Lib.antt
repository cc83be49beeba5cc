pub mod Counts
pub mod Search
pub mod Commits
