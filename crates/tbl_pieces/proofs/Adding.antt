-- Pieces that are added behind others.
use Rattle.std.proofs.Common.{◌≡◌, ℕ, ◌+◌, ◌≤◌, Bool, true, false, List, [], ◌∷◌, ◌++◌, length, drop, refl, sym, ap, ◌∙◌, arith, append_assoc, length-append, if◌then◌else◌, ◌==◌, eqb-true, append-nil}
use Rattle.std.proofs.lemmas.List.{drop-append-le}
use Rattle.tbl_pieces.specs.PieceQueue.{Adds, AddsFitting, IsInFirst, KeptPieces, bytes_left, with_piece}
use Rattle.tbl_pieces.specs.Pieces.{AreWithin, bytes_of, bytes_of_all, piece_len, some_piece}
use Rattle.tbl_pieces.specs.declared.pieces.Piece.{Piece}
use Rattle.tbl_pieces.proofs.PiecesWithin.{AreWithin-append, AreWithin-some}
use Rattle.tbl_pieces.proofs.PieceBytes.{bytes_of_all-append}

no-bytes : (xs : List ℕ) → length xs ≡ 0 → [] ≡ xs
no-bytes [] is = refl
no-bytes (x ∷ xs) is = absurd (omega (arith, is))

zero-by : (n : ℕ) → (n == 0) ≡ true → n ≡ 0
zero-by n is = eqb-true n 0 is

few-by : (t : Bool) (piece : Piece) → length (if t then [] else piece ∷ []) ≤ 1
few-by true piece = omega arith
few-by false piece = omega arith

-- what is kept of items, of which so many were given
abbrev pub kept_of : ℕ → ℕ → ℕ → List Piece → KeptPieces
kept_of first offset room items = record { pieces = drop first items; offset = offset; room = room; taken = length items }

pub kept-more : (first offset room : ℕ) (items : List Piece) (piece : Piece) → first ≤ length items
    → with_piece piece (kept_of first offset room items) ≡ kept_of first offset room (items ++ some_piece piece)
kept-more first offset room items piece within =
    let kept : List Piece → ℕ → KeptPieces = λ pieces taken. record { pieces = pieces; offset = offset; room = room; taken = taken } in
    ap (λ (pieces : List Piece). kept pieces (length items + length (some_piece piece))) (sym (drop-append-le first items (some_piece piece) within))
    ∙ ap (λ (taken : ℕ). kept (drop first (items ++ some_piece piece)) taken) (sym (length-append items (some_piece piece)))

module _ (block frame : List ℕ) where
  -- the bytes of a piece, if it has some
  bytes-by : (t : Bool) (piece : Piece) → (piece_len piece == 0) ≡ t → length (bytes_of block frame piece) ≡ piece_len piece
      → bytes_of_all block frame (if t then [] else piece ∷ []) ≡ bytes_of block frame piece
  bytes-by true piece is within = no-bytes (bytes_of block frame piece) (within ∙ zero-by (piece_len piece) is)
  bytes-by false piece is within = append-nil (bytes_of block frame piece)

  -- a place in the first of some pieces is one in all
  place-within : (offset : ℕ) (pieces : List Piece) → IsInFirst offset pieces → AreWithin block frame pieces
      → offset ≤ length (bytes_of_all block frame pieces)
  place-within offset [] is within = omega (arith, is)
  place-within offset (p ∷ pieces) is within =
      omega (arith, is, within.0, length-append (bytes_of block frame p) (bytes_of_all block frame pieces))

  -- a piece is added
  pub adds-piece : (k : KeptPieces) (piece : Piece) → IsInFirst k.offset k.pieces
      → length (bytes_of block frame piece) ≡ piece_len piece
      → Adds block frame 1 k (with_piece piece k) (bytes_of block frame piece)
  adds-piece k piece is lies = record {
    left = λ within.
        ap (drop k.offset) (bytes_of_all-append block frame k.pieces (some_piece piece))
        ∙ drop-append-le k.offset (bytes_of_all block frame k.pieces) (bytes_of_all block frame (some_piece piece))
        (place-within k.offset k.pieces is within)
        ∙ ap (λ (more : List ℕ). bytes_left block frame k ++ more) (bytes-by (piece_len piece == 0) piece refl lies);
    within = λ within. AreWithin-append block frame k.pieces (some_piece piece) within (AreWithin-some block frame piece lies);
    few = omega (arith, few-by (piece_len piece == 0) piece);
    grown = omega (arith, length-append k.pieces (some_piece piece));
    room = refl;
  }

  -- pieces are added behind others
  pub adds-more : (count more : ℕ) (old between new : KeptPieces) (xs ys : List ℕ) → Adds block frame count old between xs
      → Adds block frame more between new ys → Adds block frame (count + more) old new (xs ++ ys)
  adds-more count more old between new xs ys first second = record {
    left = λ within.
        second.left (first.within within)
        ∙ ap (λ (front : List ℕ). front ++ ys) (first.left within)
        ∙ append_assoc (bytes_left block frame old) xs ys;
    within = λ within. second.within (first.within within);
    few = omega (arith, first.few, second.few);
    grown = omega (arith, first.grown, second.grown);
    room = second.room ∙ first.room;
  }

  -- none are
  pub adds-none : (k : KeptPieces) → Adds block frame 0 k k []
  adds-none k = record {
    left = λ within. sym (append-nil (bytes_left block frame k));
    within = λ within. within;
    few = omega arith;
    grown = refl;
    room = refl;
  }

  -- fewer
  pub adds-fewer : (count most : ℕ) (old new : KeptPieces) (xs : List ℕ) → count ≤ most → Adds block frame count old new xs
      → Adds block frame most old new xs
  adds-fewer count most old new xs few adds = record {
    left = adds.left;
    within = adds.within;
    few = omega (arith, few, adds.few);
    grown = adds.grown;
    room = adds.room;
  }

  -- those of a step fit
  pub adds-fitting : (old new : KeptPieces) (xs : List ℕ) → Adds block frame 4 old new xs → AddsFitting block frame old new xs
  adds-fitting old new xs adds = record {
    count = 4;
    adds = adds;
    fits = λ room. omega (arith, adds.few, adds.room, room);
  }

  -- and more behind them, where there is still room for those of a step
  pub fitting-more : (old between new : KeptPieces) (xs ys : List ℕ) → between.taken + 4 ≤ between.room
      → AddsFitting block frame old between xs → AddsFitting block frame between new ys → AddsFitting block frame old new (xs ++ ys)
  fitting-more old between new xs ys room first second = record {
    count = first.count + second.count;
    adds = adds-more first.count second.count old between new xs ys first.adds second.adds;
    fits = λ _. second.fits room;
  }
