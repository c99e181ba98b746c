pub mod Longer
pub mod Outset
pub mod Settles
