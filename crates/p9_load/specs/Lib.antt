pub mod Faults
pub mod Refusals
pub mod Expansions
pub mod Addresses
pub mod Loading
