pub mod Judge
pub mod PrivateSets
