pub mod Refusals
pub mod Fleets
pub mod Fixes
pub mod Lines
