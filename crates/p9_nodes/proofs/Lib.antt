pub mod Numbers
pub mod Rows
pub mod Operands
pub mod Naming
