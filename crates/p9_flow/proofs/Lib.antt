pub mod Rising
pub mod Passing
pub mod Barring
pub mod Meaning
pub mod Ordering
pub mod Tabling
