pub mod Engine
pub mod Outcomes
pub mod TwoRuns
pub mod Starting
pub mod Clauses
