pub mod Placing
pub mod Tables
pub mod Entries
pub mod Held
