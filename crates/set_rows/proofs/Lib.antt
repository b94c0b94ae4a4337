pub mod OneRow
mod Opened
mod PointSteps
pub mod SetRows
