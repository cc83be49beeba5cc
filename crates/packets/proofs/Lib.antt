pub mod Back
pub mod Only
pub mod Whole
pub mod Sealed
