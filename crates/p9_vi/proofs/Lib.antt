pub mod Clear
pub mod Requests
pub mod Stepping
pub mod Tying
pub mod Whole
