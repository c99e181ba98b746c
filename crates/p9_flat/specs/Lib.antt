pub mod Resolved
pub mod Step
pub mod Code
pub mod Flat
pub mod Laws
pub mod Machine
pub mod Program
pub mod Ending
