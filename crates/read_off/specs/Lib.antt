pub mod ReadOff
