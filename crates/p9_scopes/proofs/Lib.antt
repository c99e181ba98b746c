pub mod Sets
pub mod Held
pub mod Places
pub mod Levels
pub mod NodeLists
pub mod Searching
pub mod Tables
