pub mod Congruence
pub mod Prime
pub mod Fields
pub mod Dot
mod Table
