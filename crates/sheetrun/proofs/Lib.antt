pub mod Inputs
pub mod Lines
pub mod Logs
pub mod RainsByMarks
pub mod RunsByMarks
