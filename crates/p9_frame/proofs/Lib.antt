pub mod Within
pub mod Offsets
pub mod Moving
pub mod Making
pub mod Placing
pub mod Held
pub mod Framing
