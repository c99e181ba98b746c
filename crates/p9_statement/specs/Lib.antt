pub mod Words
pub mod Lexemes
pub mod Operands
pub mod Statements
