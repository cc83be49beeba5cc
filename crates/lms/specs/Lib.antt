pub mod Lms
pub mod Parts
pub mod Signing
