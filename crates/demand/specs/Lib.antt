pub mod Demand
pub mod Zeros
pub mod Maps
pub mod Files
pub mod Retired
