pub mod Calm
pub mod Tame
pub mod Ahead
pub mod Resting
pub mod Ended
pub mod Beginning
