pub mod Lost
pub mod Undecided
pub mod Differing
