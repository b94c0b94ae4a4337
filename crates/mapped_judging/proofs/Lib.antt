pub mod Products
pub mod Ends
