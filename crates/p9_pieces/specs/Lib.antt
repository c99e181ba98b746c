pub mod Callees
pub mod Ways
pub mod Functions
pub mod Pieces
pub mod Laws
