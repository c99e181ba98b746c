pub mod Found
pub mod Named
pub mod Scoped
pub mod Integers
pub mod Meanings
pub mod Statics
