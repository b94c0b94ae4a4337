mod Parts
mod Columns
pub mod Table
