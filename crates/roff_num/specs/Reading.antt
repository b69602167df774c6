-- An expression that the code is reading.
pub mod Frames
