-- The unread input (manual, section 7): what it keeps, what its calls answer, and what stands together in front.
pub mod Calls
pub mod Kept
pub mod Lines
pub mod Runs
pub mod FirstArguments
pub mod Texts
pub mod Copied
