pub mod Frame
pub mod PartsToCome
pub mod CutsCounted
pub mod LinesWalked
pub mod Giving
