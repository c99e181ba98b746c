pub mod Running
pub mod Shaping
pub mod Ending
pub mod Entering
pub mod Composing
pub mod Modules
