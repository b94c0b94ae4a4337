pub mod Sums
pub mod Found
pub mod Honest
pub mod Signed
pub mod Timings
