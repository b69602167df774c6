-- What the code reads, as the definition reads it.
pub mod State
pub mod Taken
pub mod Springs
pub mod Titles
pub mod Stepping
