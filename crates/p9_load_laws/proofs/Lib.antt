pub mod Quiet
pub mod Starting
pub mod Showing
pub mod Mapping
