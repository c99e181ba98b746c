pub mod Sizes
pub mod Plans
pub mod Emitted
pub mod Making
