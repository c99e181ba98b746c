pub mod Least
pub mod Values
pub mod Told
pub mod Arities
pub mod Answers
