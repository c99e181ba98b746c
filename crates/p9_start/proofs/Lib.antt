pub mod Steps
pub mod Exiting
pub mod First
pub mod Starting
