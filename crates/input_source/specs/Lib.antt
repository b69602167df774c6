pub mod Tape
pub mod Bytes
pub mod BlockRead
pub mod StdRead
pub mod ReadSource
