pub mod Sizes
pub mod Rows
pub mod Books
pub mod Kept
