pub mod Marking
pub mod Basing
pub mod Calling
pub mod Valid
pub mod Filling
pub mod Leading
pub mod Finished
pub mod Answering
