pub mod Preparing
pub mod RegistersAsked
pub mod PagesAsked
pub mod CommandLine
pub mod CommandRows
pub mod Clauses
