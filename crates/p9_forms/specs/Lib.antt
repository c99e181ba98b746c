pub mod Standing
pub mod Following
pub mod Laws
pub mod Entering
