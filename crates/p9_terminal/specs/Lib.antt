pub mod Terminals
