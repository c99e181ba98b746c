pub mod Nodes
pub mod Carrying
pub mod Joining
pub mod Bodies
pub mod Lengths
