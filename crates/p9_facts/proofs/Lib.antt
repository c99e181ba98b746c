pub mod Noting
pub mod Listing
