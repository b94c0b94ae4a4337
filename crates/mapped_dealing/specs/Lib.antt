pub mod Singles
pub mod Inner
