mod Operands
pub mod Leasts
mod Conversions
