pub mod Contents
pub mod Parts
pub mod Converting
