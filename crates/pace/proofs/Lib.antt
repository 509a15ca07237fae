pub mod Counts
pub mod Rounds
pub mod Prints
