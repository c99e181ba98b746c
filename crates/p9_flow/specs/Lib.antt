pub mod Rows
pub mod Acts
pub mod Columns
pub mod Tables
