pub mod Types
pub mod Outermost
pub mod Judging
pub mod Closed
pub mod Inwards
pub mod Declared
pub mod Operations
