pub mod Vouching
pub mod Registers
pub mod Keys
pub mod Revocation
pub mod Port
pub mod Shipped
