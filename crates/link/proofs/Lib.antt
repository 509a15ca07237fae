pub mod RestLaws
pub mod Watches
pub mod Tallies
pub mod Phases
pub mod Moves
pub mod RunLaws
pub mod Laws
