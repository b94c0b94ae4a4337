pub mod Choice
pub mod Rules
pub mod Refusals
pub mod Sum
pub mod Search
pub mod Fill
pub mod Matrix
