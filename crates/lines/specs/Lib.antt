pub mod Numbers
pub mod Comments
