pub mod Shapes
pub mod Game
pub mod Order
