pub mod Fields
pub mod Machine
pub mod Bytes
pub mod Laws
pub mod Examples
