pub mod PiecesApart
pub mod RunningOn
