pub mod Files
pub mod Breaks
pub mod Code
pub mod Data
pub mod Modules
pub mod Assembled
