pub mod Singles
pub mod Wires
pub mod Hops
pub mod Marks
pub mod Rains
