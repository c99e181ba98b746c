mod Rows
mod Operands
mod Instructions
mod Pieces
mod Fresh
mod Symbols
mod Ahead
mod Objects
mod Widths
mod Fitting
pub mod Reading
pub mod Examples
