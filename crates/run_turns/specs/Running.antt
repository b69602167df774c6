-- A run of the code under way.
pub mod Turning
pub mod Telling
pub mod Springing
pub mod Leaving
