-- The bytes of a line, one after another.
pub mod Fronts
pub mod Left
pub mod Shares
