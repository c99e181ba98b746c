pub mod Agreement
pub mod Depth
pub mod Modules
