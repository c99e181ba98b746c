pub mod Sizes
pub mod Jumps
pub mod Sending
pub mod Texts
pub mod Stepping
pub mod Running
