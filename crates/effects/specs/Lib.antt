pub mod Answers
pub mod Changes
