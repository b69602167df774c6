pub mod Reader
pub mod Clauses
