pub mod Names
pub mod Valid
pub mod Within
pub mod Mains
pub mod Joined
pub mod Together
