pub mod Whole
pub mod Fresh
pub mod Lasts
pub mod Names
pub mod Pieces
pub mod Spelled
