pub mod Laws
pub mod Curve
pub mod Values
pub mod Tables
