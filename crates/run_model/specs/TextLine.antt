-- What the code of a text line does.
pub mod Stepping
