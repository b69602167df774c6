pub mod Giving
pub mod StdReading
pub mod PlainBytes
