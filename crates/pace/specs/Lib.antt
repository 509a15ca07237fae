pub mod Tallies
pub mod Links
pub mod Repeats
pub mod Frames
pub mod Tasks
