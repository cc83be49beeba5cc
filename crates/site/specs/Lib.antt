pub mod Does
pub mod Examples
