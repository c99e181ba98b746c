pub mod Stepping
pub mod Within
