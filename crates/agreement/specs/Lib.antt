pub mod Sites
pub mod Statements
pub mod Moves
pub mod Examples
pub mod Promises
pub mod Laws
