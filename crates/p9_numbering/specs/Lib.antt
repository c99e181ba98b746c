pub mod Told
pub mod Maps
pub mod Numbered
