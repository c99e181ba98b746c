pub mod Braces
pub mod Values
pub mod Operands
pub mod Answered
pub mod Listing
pub mod Specs
