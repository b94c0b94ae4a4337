pub mod Records
pub mod Inner
pub mod Sound
pub mod Answering
