pub mod Texts
pub mod Chains
pub mod Trees
pub mod Signing
