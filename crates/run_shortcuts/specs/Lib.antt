pub mod Beginning
pub mod EndsAtOnce
pub mod BehindText
pub mod Passed
pub mod Unfilled
pub mod Clauses
