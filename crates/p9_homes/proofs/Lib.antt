pub mod Tabling
pub mod Finding
