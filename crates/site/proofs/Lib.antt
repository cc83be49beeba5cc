pub mod Admitted
pub mod Worked
