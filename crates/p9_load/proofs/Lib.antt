pub mod Exactly
pub mod Numbers
pub mod Parts
pub mod Sizes
pub mod Naming
pub mod Going
pub mod Finishing
