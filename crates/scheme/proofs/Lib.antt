pub mod Calls
pub mod Rounds
pub mod Points
pub mod Verdicts
pub mod Members
pub mod Sets
pub mod Certificates
pub mod Answering
pub mod NoColumns
pub mod Grows
pub mod Cases
mod Supplier
pub mod Zero
mod MapCases
mod RoundCases
mod SetRows
pub mod PointSets
pub mod Interpolated
