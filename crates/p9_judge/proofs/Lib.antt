pub mod Nodes
pub mod BodyNames
pub mod StaticNames
pub mod Marks
pub mod Walking
