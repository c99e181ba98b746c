pub mod Memory
pub mod Matching
pub mod Playing
pub mod Functions
pub mod Translating
pub mod Examples
