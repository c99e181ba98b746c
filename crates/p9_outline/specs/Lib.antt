pub mod Held
pub mod Summaries
pub mod Told
pub mod Locals
pub mod Externs
