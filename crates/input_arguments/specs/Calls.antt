-- The arguments of calls.
pub mod Kept
