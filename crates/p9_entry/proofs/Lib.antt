pub mod Matching
pub mod Through
