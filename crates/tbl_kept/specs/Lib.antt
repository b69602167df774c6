pub mod Joined
pub mod TableText
pub mod TableNotes
pub mod Rows
pub mod RowsInside
pub mod RowsGrowing
pub mod RowsLaying
pub mod KeptHeights
