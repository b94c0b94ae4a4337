pub mod Integers
pub mod Corrections
pub mod Calls
pub mod Laws
pub mod Cases
