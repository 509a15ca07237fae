pub mod Examples
pub mod Definitions
pub mod Answers
pub mod Messages
