pub mod Sets
pub mod Back
pub mod Found
pub mod Honest
pub mod Keys
