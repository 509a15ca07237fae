pub mod BookLaws
pub mod Values
