pub mod Entries
pub mod Meaning
pub mod Parts
pub mod Fixing
pub mod Values
pub mod Entering
