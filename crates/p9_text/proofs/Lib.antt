pub mod Listing
pub mod Exactly
