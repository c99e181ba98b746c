pub mod Layouts
pub mod Structures
