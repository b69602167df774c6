-- The buffer of a line's arguments.
pub mod Ends
pub mod Kept
