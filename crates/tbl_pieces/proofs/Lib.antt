pub mod PieceBytes
pub mod PiecesWithin
pub mod PiecesLeft
pub mod Adding
