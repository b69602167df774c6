pub mod Kept
pub mod Standing
