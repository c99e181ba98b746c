pub mod Among
pub mod Numbered
pub mod Standing
