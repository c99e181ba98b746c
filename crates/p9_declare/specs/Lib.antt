pub mod Heads
pub mod Types
pub mod Told
pub mod Judging
pub mod Closing
pub mod Operations
