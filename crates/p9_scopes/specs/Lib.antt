pub mod Newest
pub mod Seen
pub mod Retyping
pub mod State
pub mod Sound
