-- The tab stops that an environment keeps.
pub mod Kept
pub mod Ways
