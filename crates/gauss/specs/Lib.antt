pub mod Gauss
