pub mod Elimination
pub mod Inner
