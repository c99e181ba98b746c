pub mod Appending
pub mod Summaries
