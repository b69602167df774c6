-- A sink in memory that is watched.
pub mod Telling
