-- A source over a reader.
pub mod Endings
pub mod Reach
