pub mod Linking
pub mod Rules
pub mod Passes
pub mod Answers
