pub mod Gathering
pub mod Steps
pub mod Effects
pub mod Calls
pub mod Hearing
pub mod Laws
pub mod Examples
