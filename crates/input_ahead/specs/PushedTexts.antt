-- Slots for what stands ahead of the source.
pub mod Standing
pub mod Held
