pub mod Superseding
pub mod Laws
