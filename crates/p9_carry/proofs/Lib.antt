pub mod Ending
pub mod Alike
pub mod Carrying
pub mod Entries
pub mod Over
pub mod Rows
pub mod Places
pub mod Framing
