pub mod Reading
pub mod Two
pub mod Laws
mod Cases
