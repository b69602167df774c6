-- Frames: what stands ahead of the source, with bodies that are read where they lie.
pub mod Bodies
pub mod Kept
pub mod Calls
