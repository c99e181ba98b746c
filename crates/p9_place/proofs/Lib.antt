pub mod Collecting
pub mod Owning
pub mod Offsets
pub mod Answering
