pub mod Executable
pub mod Headline
pub mod Laws
