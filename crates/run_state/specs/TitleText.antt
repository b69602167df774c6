-- A title's text in code.
pub mod Kept
