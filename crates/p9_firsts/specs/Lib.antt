pub mod Whole
pub mod Typedefs
pub mod Laws
