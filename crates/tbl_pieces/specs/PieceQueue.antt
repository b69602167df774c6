-- Pieces that are to give, of which a front was given.
use Rattle.std.specs.Prelude.{◌≡◌, ℕ, ◌+◌, ◌≤◌, ◌<◌, List, [], ◌∷◌, ◌++◌, drop, length, vec_capacity}
use Rattle.tbl_pieces.specs.Pieces.{AreWithin, HaveBytes, bytes_of_all, piece_len, some_piece}
use Rattle.tbl_pieces.specs.declared.pieces.Piece.{Piece}
use Rattle.tbl_pieces.specs.declared.piece_queue.PieceQueue.TheInside.{Inside}

-- the pieces that are left, how many bytes of the first were given, how many pieces there is room for, and how much of that is
-- taken: pieces that were given take theirs until the queue is cleared
pub record KeptPieces : Type 0 where
  pub pieces : List Piece
  pub offset : ℕ
  pub room : ℕ
  pub taken : ℕ

-- its bytes that are left, where the pieces are parts of these texts
abbrev pub bytes_left : List ℕ → List ℕ → KeptPieces → List ℕ
bytes_left block frame k = drop k.offset (bytes_of_all block frame k.pieces)

-- it holds these pieces, of which nothing was given
abbrev pub holding : KeptPieces → List Piece → KeptPieces
holding k pieces = record { pieces = pieces; offset = 0; room = k.room; taken = length pieces }

-- a piece more, if it has a byte
abbrev pub with_piece : Piece → KeptPieces → KeptPieces
with_piece piece k = record k { pieces = k.pieces ++ some_piece piece; taken = k.taken + length (some_piece piece) }

-- pieces more, so many at most, which have these bytes where they are parts of these texts
pub record Adds (block frame : List ℕ) (count : ℕ) (old new : KeptPieces) (bytes : List ℕ) : Type 0 where
  pub left : AreWithin block frame old.pieces → bytes_left block frame new ≡ bytes_left block frame old ++ bytes
  pub within : AreWithin block frame old.pieces → AreWithin block frame new.pieces
  pub few : new.taken ≤ old.taken + count
  pub grown : length new.pieces + old.taken ≡ length old.pieces + new.taken
  pub room : new.room ≡ old.room

-- pieces more, which have these bytes, and fit where there is room for those of a step
pub record AddsFitting (block frame : List ℕ) (old new : KeptPieces) (bytes : List ℕ) : Type 0 where
  pub count : ℕ
  pub adds : Adds block frame count old new bytes
  pub fits : old.taken + 4 ≤ old.room → new.taken ≤ new.room

-- a place within the first of some pieces
abbrev pub IsInFirst : ℕ → List Piece → Type 0
IsInFirst offset [] = offset ≡ 0
IsInFirst offset (piece ∷ pieces) = offset < piece_len piece

abbrev pub kept_by : Inside → KeptPieces
kept_by a = record {
  pieces = drop a.piece a.pieces.items;
  offset = a.offset;
  room = a.room;
  taken = length a.pieces.items;
}

-- the room is reserved, no piece is empty, and the place lies within the first that is left, if one is
pub record IsSound (a : Inside) : Type 0 where
  pub reserved : a.room ≤ vec_capacity a.pieces
  pub bytes : HaveBytes a.pieces.items
  pub within : a.piece ≤ length a.pieces.items
  pub place : IsInFirst a.offset (drop a.piece a.pieces.items)
