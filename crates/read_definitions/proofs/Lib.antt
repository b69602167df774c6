pub mod CopiedTurns
pub mod CopiedLines
