pub mod Exited
pub mod Sources
