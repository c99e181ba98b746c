pub mod Showing
pub mod Mapping
