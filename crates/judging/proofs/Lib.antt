pub mod Products
pub mod Pairs
pub mod Ends
