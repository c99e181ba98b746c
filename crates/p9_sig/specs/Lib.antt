pub mod Parts
pub mod Texts
pub mod TypesInRange
pub mod Writing
pub mod Laws
pub mod Examples
