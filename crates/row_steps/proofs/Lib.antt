pub mod Rows
mod Narrow
