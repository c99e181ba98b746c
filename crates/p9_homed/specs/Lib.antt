pub mod Homed
pub mod Plain
