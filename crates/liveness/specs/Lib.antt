pub mod Sealing
pub mod Recovery
pub mod Scripts
pub mod Meets
