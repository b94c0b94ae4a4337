pub mod Parts
pub mod Deals
