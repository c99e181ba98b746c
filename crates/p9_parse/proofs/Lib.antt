pub mod Lexed
pub mod Walking
