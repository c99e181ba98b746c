pub mod Sets
pub mod Telling
pub mod Walking
pub mod Pushing
pub mod Summing
