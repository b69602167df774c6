pub mod Stretch
pub mod StopTable
pub mod Env
pub mod Shape
pub mod GlyphsInFront
pub mod FirstLine
pub mod Clauses
pub mod Buffers
