pub mod Coded
pub mod Kept
pub mod ReadOnly
pub mod Stepping
