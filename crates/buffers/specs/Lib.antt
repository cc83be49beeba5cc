pub mod Words
pub mod Lays
