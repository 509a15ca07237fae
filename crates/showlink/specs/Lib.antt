pub mod Sendings
pub mod Prints
