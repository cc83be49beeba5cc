pub mod Steps
pub mod Faults
pub mod Examining
pub mod Reading
pub mod Judging
pub mod Laws
pub mod Runs
