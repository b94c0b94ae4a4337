mod Examples
pub mod Gauss
pub mod Steps
