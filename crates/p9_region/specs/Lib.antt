pub mod Costs
pub mod Masks
pub mod Greedy
pub mod Labels
pub mod Picking
pub mod Finding
