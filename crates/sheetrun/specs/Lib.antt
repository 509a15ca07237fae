pub mod CallsByMarks
pub mod Prints
