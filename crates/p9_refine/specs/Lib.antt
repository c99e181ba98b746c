pub mod Maps
pub mod Refining
