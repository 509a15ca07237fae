pub mod Crossings
pub mod Prints
