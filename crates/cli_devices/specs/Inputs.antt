-- The input in its parts.
pub mod Name
pub mod Part
pub mod Giving
