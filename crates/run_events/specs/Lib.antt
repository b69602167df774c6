pub mod Reaching
pub mod Formatter
pub mod Clauses
