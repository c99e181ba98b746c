pub mod Viable
