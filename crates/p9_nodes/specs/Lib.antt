pub mod Nodes
pub mod Unlabelled
pub mod Arities
pub mod Names
pub mod Labels
pub mod Evaluated
