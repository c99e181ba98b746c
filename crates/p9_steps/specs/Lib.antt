pub mod Names
pub mod Places
pub mod Room
pub mod Heads
