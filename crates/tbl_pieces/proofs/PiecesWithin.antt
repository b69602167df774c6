-- Pieces have bytes, and lie within their texts.
use Rattle.std.proofs.Common.{◌≡◌, ℕ, Bool, true, false, List, [], ◌∷◌, ◌++◌, length, arith, if◌then◌else◌, ◌==◌}
use Rattle.tbl_format.proofs.Elements.{each-append}
use Rattle.tbl_pieces.specs.Pieces.{AreWithin, bytes_of, piece_len, some_piece}
use Rattle.tbl_pieces.specs.declared.pieces.Piece.{Piece}

module _ (block frame : List ℕ) where
  AreWithin-by : (t : Bool) (piece : Piece) → length (bytes_of block frame piece) ≡ piece_len piece
      → AreWithin block frame (if t then [] else piece ∷ [])
  AreWithin-by true piece is = tt
  AreWithin-by false piece is = (is, tt)

  pub AreWithin-some : (piece : Piece) → length (bytes_of block frame piece) ≡ piece_len piece → AreWithin block frame (some_piece piece)
  AreWithin-some piece is = AreWithin-by (piece_len piece == 0) piece is

  pub AreWithin-append : (xs ys : List Piece) → AreWithin block frame xs → AreWithin block frame ys → AreWithin block frame (xs ++ ys)
  AreWithin-append xs ys all more =
      each-append (λ (piece : Piece). length (bytes_of block frame piece) ≡ piece_len piece) xs ys all more
