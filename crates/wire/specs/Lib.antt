pub mod Words
pub mod Contents
pub mod Layout
pub mod Places
