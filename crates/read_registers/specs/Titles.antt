pub mod Fronts
pub mod Kept
