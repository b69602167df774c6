pub mod WholeRuns
pub mod RegistersGiven
pub mod Outcomes
pub mod TwoRuns
pub mod Unbounded
