-- A buffer of the environment.
pub mod Held
