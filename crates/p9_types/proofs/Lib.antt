mod Arithmetic
pub mod Shapes
mod ArrayElements
mod AlikeExtents
pub mod Lists
mod Weights
mod Advancing
mod TagsAt
mod Laid
mod Mapping
mod Cutting
mod Tallies
mod Descent
mod Pruning
mod Searching
mod Blindness
mod Entries
mod Placings
mod Unnamed
mod NamedMembers
mod Loops
mod Comparing
mod WrittenMembers
