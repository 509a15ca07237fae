pub mod Additions
pub mod Hexadecimals
pub mod AnyFrames
pub mod Lines
pub mod Uses
