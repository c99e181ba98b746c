pub mod Layout
pub mod Code
pub mod Building
pub mod Headline
pub mod FormRun
