pub mod Beginnings
pub mod Binding
pub mod Braces
pub mod Voids
pub mod Wanting
