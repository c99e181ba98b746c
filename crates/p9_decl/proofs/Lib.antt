pub mod Opening
pub mod Walking
pub mod Phrasing
pub mod Going
pub mod Finding
pub mod Ending
