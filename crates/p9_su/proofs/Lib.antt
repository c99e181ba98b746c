pub mod Places
pub mod Bound
pub mod Plays
pub mod Labels
pub mod Numbers
