pub mod Contents
pub mod File
pub mod Inner
pub mod Sound
