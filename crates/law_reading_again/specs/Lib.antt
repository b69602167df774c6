pub mod Again
pub mod Shown
pub mod Anywhere
pub mod Rows
