pub mod Shifts
pub mod Holding
pub mod Kept
pub mod CallLemmas
pub mod CallLists
pub mod Pieces
pub mod Bringing
pub mod Orders
