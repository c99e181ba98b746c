pub mod Textless
pub mod Growing
pub mod Endless
pub mod Heading
pub mod Wholes
pub mod Closing
