pub mod Placings
pub mod Filling
pub mod Listed
