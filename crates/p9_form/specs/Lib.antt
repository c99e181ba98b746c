pub mod Found
pub mod Items
pub mod Phrases
pub mod Reading
pub mod Scanning
pub mod Spelling
pub mod Sharing
