pub mod KeptCells
pub mod LaidCells
pub mod LinesDrawn
pub mod RulesDrawn
