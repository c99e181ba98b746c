pub mod Knowing
pub mod Room
