pub mod Records
pub mod Functions
pub mod Entries
pub mod Rising
