pub mod Pieces
pub mod PieceQueue
