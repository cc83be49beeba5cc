pub mod Schedule
pub mod Blocks
