pub mod Reduced
pub mod Shows
mod Examples
