pub mod Runs
pub mod Promises
pub mod Laws
pub mod Happens
pub mod TwoLiars
