pub mod Rule
pub mod Told
