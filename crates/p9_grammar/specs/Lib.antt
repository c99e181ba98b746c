pub mod Trees
pub mod Symbols
pub mod Scopes
pub mod Grammar
pub mod Machine
pub mod Promise
