pub mod FirstTraps
pub mod KnownStops
pub mod Counted
pub mod Kept
pub mod Stands
pub mod Innermost
pub mod Advancing
pub mod Printing
