pub mod Setup
pub mod Dealing
pub mod Opened
pub mod Answering
pub mod Columns
pub mod Rounds
