pub mod Registers
pub mod Going
pub mod Every
pub mod Five
pub mod Refusing
