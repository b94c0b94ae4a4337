pub mod Received
pub mod Inner
