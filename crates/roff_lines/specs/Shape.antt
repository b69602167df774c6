-- The shape of a finished line.
pub mod Shaped
