pub mod Insts
pub mod FormLines
pub mod Weights
pub mod Laws
