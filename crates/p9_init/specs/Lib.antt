pub mod Cells
pub mod Pieces
pub mod Fixing
pub mod Contents
pub mod Images
