pub mod Layouts
pub mod Calls
pub mod ReadBack
pub mod Exact
pub mod Answering
