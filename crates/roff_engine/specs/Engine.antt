-- A whole run of the code.
pub mod Setup
