pub mod CopiedLines
