mod Trees
mod Slots
mod Places
mod Made
mod Functions
mod Statements
mod Orderly
