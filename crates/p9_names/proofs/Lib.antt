pub mod Lists
pub mod Listing
pub mod Breaking
pub mod Chosen
pub mod Agreed
pub mod Steps
pub mod Answering
pub mod Exactness
mod BuiltInModule
pub mod OneChoice
