pub mod Weighing
pub mod Leading
pub mod Having
