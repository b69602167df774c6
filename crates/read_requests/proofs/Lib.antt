pub mod TabStops
pub mod Numbering
pub mod PageLengths
