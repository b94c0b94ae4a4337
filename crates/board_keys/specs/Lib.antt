pub mod Keys
pub mod Inner
pub mod Answering
