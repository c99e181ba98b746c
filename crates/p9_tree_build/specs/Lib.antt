pub mod Machines
pub mod Names
