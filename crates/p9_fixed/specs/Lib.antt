pub mod Told
pub mod Arities
pub mod Evaluated
