pub mod Running
pub mod Clauses
