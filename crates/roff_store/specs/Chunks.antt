-- The chunks in which texts lie.
pub mod Kept
