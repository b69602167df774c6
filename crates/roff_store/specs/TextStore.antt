-- The store of texts by name.
pub mod Strands
pub mod Room
pub mod Kept
