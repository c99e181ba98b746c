pub mod Run
pub mod Stops
pub mod Kept
pub mod Steps
pub mod Tied
