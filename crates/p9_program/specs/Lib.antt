pub mod Linking
pub mod Whole
pub mod Example
