pub mod Prime
pub mod Fields
pub mod Dot
