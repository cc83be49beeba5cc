pub mod Laying
pub mod Held
pub mod Equal
pub mod Bytes
