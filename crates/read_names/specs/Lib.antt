pub mod FirstUnits
pub mod Inputs
pub mod NamesGiven
pub mod NamesRead
