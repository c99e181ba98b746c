pub mod Placed
pub mod Listing
pub mod Reading
