pub mod Envelopes
pub mod Located
pub mod Ends
