-- The pieces of which a line is given: parts of the block, and blanks and rules between them.
use Rattle.std.specs.Prelude.{◌≡◌, ℕ, ◌-◌, ◌<◌, List, [], ◌∷◌, ◌++◌, length, replicate, codes, if◌then◌else◌, ◌==◌}
use Rattle.std.specs.List.{slice_range, AllByRecursion}
use Rattle.input_source.specs.Bytes.{newline, blank, backslash}
use Rattle.tbl_pieces.specs.declared.pieces.Piece.{Piece}
use Rattle.tbl_pieces.specs.declared.pieces.Piece.TheVariants.{Blanks, Block, Frame, Joint, LineEnd, LineFront, Repeated}

-- the bytes of a piece
abbrev pub bytes_of : List ℕ → List ℕ → Piece → List ℕ
bytes_of block frame (Block from to) = slice_range block from to
bytes_of block frame (Frame from to) = slice_range frame from to
bytes_of block frame (Blanks count) = replicate count blank
bytes_of block frame (Repeated b count) = replicate count b
bytes_of block frame LineFront = codes "\\&"
bytes_of block frame LineEnd = newline ∷ []
bytes_of block frame Joint = backslash ∷ newline ∷ []

-- how many they are, if it lies within its block
abbrev pub piece_len : Piece → ℕ
piece_len (Block from to) = to - from
piece_len (Frame from to) = to - from
piece_len (Blanks count) = count
piece_len (Repeated b count) = count
piece_len LineFront = 2
piece_len LineEnd = 1
piece_len Joint = 2

-- the bytes of pieces, one after another
abbrev pub bytes_of_all : List ℕ → List ℕ → List Piece → List ℕ
bytes_of_all block frame [] = []
bytes_of_all block frame (piece ∷ pieces) = bytes_of block frame piece ++ bytes_of_all block frame pieces

-- pieces of which each has a byte
abbrev pub HaveBytes : List Piece → Type 0
HaveBytes pieces = AllByRecursion (λ piece. 0 < piece_len piece) pieces

-- pieces that lie within the texts of which they are parts
abbrev pub AreWithin : List ℕ → List ℕ → List Piece → Type 0
AreWithin block frame pieces = AllByRecursion (λ piece. length (bytes_of block frame piece) ≡ piece_len piece) pieces

-- a piece, if it has a byte
abbrev pub some_piece : Piece → List Piece
some_piece piece = if piece_len piece == 0 then [] else piece ∷ []
