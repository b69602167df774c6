-- The table of entries by name.
pub mod Slots
pub mod Kept
