pub mod Rules
pub mod Channels
pub mod Rows
pub mod Words
