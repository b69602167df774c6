pub mod Memory
pub mod WatchedSink
pub mod Inputs
pub mod Buffered
