pub mod Lending
pub mod Filling
pub mod Frames
