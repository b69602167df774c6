-- What is still to give of a table.
use Rattle.std.specs.Prelude.{◌≡◌, Bool, true, false, ℕ, ◌≤◌, ◌<◌, ◌^◌, List, [], ◌∷◌, ◌++◌, length, drop, vec_capacity}
use Rattle.std.specs.List.{AllByRecursion}
use Rattle.input_source.specs.Bytes.{newline}
use Rattle.tbl_format.specs.Cells.{AreCells}
use Rattle.tbl_format.specs.Format.{FormatRow}
use Rattle.tbl_format.specs.FormatRows.{KeptFormat}
use Rattle.tbl_format.specs.RowsServed.{all_rows}
use Rattle.tbl_kept.specs.Joined.{RiseWithin, unjoined}
use Rattle.tbl_kept.specs.Rows.{KeptRows, RowsLaid, elements_of}
use Rattle.tbl_kept.specs.TableText.{KeptText, block_of}
use Rattle.tbl_layout.specs.declared.bars.Bars.{Bars}
use Rattle.tbl_lines.specs.CutEntries.{cut_entries}
use Rattle.tbl_lines.specs.PictureLeft.{table_lines}
use Rattle.tbl_pieces.specs.PieceQueue.{KeptPieces, bytes_left}
use Rattle.tbl_pieces.specs.Pieces.{AreWithin}
use Rattle.tbl_lines.specs.RowsWalked.{AreNarrow}
use Rattle.tbl_picture.specs.ElementsWalked.{CanWalk, still_to_come}
use Rattle.tbl_giving.specs.LinesWalked.{CanGo, KeptLineByLine, lines_to_come}
use Rattle.tbl_lines.specs.RulePlaces.{HavePlaces}
use Rattle.tbl_picture.specs.Walks.{KeptWalk}
use Rattle.tbl_giving.specs.declared.giving.Giving.TheInside.{Inside}
use Rattle.tbl_giving.specs.declared.giving.Rest.{Rest}
use Rattle.tbl_giving.specs.declared.giving.Rest.TheVariants.{Lines, Nothing, Read}
use Rattle.tbl_pieces.specs.declared.pieces.Piece.{Piece}
use Rattle.tbl_pieces.specs.declared.pieces.Piece.TheVariants.{Blanks, LineEnd}

-- the pieces that are left, what follows them, whether a newline is given at last, how far the picture is walked, also line by line, and
-- which of the two counts, the requests around the picture, with where those behind it begin, and for how many columns there is room
pub record KeptGiving : Type 0 where
  pub pieces : KeptPieces
  pub rest : Rest
  pub has_newline : Bool
  pub walk : KeptWalk
  pub lines : KeptLineByLine
  pub is_tall : Bool
  pub frame : List ℕ
  pub frame_end : ℕ
  pub columns : ℕ

-- each cell of a row of the formats has a column at least
abbrev pub HasCells : FormatRow → Type 0
HasCells format = AreCells 0 format.keys

-- the rows of a table are laid out, in so many columns at the most, for a picture that has these bars and is so wide
pub record IsLaidOut (bars : Bars) (width : ℕ) (t : KeptText) (r : KeptRows) (k : KeptFormat) (columns : ℕ) : Type 0 where
  pub laid : RowsLaid (block_of t) (all_rows k.format) bars.boxing.is_inside r
  pub some : 0 < length r.columns
  pub few : length r.columns ≤ columns
  pub narrow : AreNarrow r.columns
  pub places : HavePlaces (all_rows k.format) (record { bars = bars; width = width; columns = r.columns })
  pub cells : AllByRecursion HasCells (all_rows k.format)
  pub wide : width < 4294967296
  pub small : length (block_of t) < 2 ^ 33

-- the lines of its picture, which has these bars and is so wide
abbrev pub lines_laid : Bars → ℕ → KeptText → KeptRows → KeptFormat → List ℕ
lines_laid bars width t r k =
    table_lines (record { bars = bars; width = width; columns = r.columns }) (elements_of (block_of t) (all_rows k.format) r.elements)

-- and how many of its entries are cut
abbrev pub cuts_laid : Bars → ℕ → KeptText → KeptRows → KeptFormat → ℕ
cuts_laid bars width t r k =
    cut_entries (record { bars = bars; width = width; columns = r.columns }) (elements_of (block_of t) (all_rows k.format) r.elements)

-- what the walk is to give, or that line by line
abbrev pub lines_left : KeptText → KeptRows → KeptFormat → KeptWalk → List ℕ
lines_left t r k walk = still_to_come (block_of t) (all_rows k.format) r walk

abbrev pub lines_left_by : Bool → KeptText → KeptRows → KeptFormat → KeptWalk → KeptLineByLine → List ℕ
lines_left_by false t r k walk lines = lines_left t r k walk
lines_left_by true t r k walk lines = lines_to_come (block_of t) (all_rows k.format) r lines walk

-- bytes, and a newline behind them or none
abbrev pub with_newline : Bool → List ℕ → List ℕ
with_newline false bytes = bytes
with_newline true bytes = bytes ++ newline ∷ []

-- the piece that is given at last: a newline, or one without a byte
abbrev pub last_piece : Bool → Piece
last_piece false = Blanks 0
last_piece true = LineEnd

-- the bytes that follow the pieces; behind the lines of the picture these requests, and the line begun; and a newline or none
abbrev pub following_by : Rest → Bool → KeptText → KeptRows → KeptFormat → List ℕ → List ℕ → List ℕ
following_by Nothing is t r k lines behind = []
following_by (Read from joint) is t r k lines behind = with_newline is (unjoined from (block_of t) (drop joint t.joints))
following_by Lines is t r k lines behind = with_newline is (lines ++ (behind ++ t.line))

abbrev pub following : KeptText → KeptRows → KeptFormat → KeptGiving → List ℕ
following t r k g = following_by g.rest g.has_newline t r k (lines_left_by g.is_tall t r k g.walk g.lines) (drop g.frame_end g.frame)

-- all bytes to come
abbrev pub coming : KeptText → KeptRows → KeptFormat → KeptGiving → List ℕ
coming t r k g = bytes_left (block_of t) g.frame g.pieces ++ following t r k g

-- what follows can be given
abbrev pub CanGoBy : Bool → KeptText → KeptRows → KeptFormat → KeptWalk → KeptLineByLine → Type 0
CanGoBy false t r k walk lines = CanWalk (block_of t) (all_rows k.format) r walk
CanGoBy true t r k walk lines = CanGo (block_of t) (all_rows k.format) r lines walk

pub record CanGiveLines (is_tall : Bool) (t : KeptText) (r : KeptRows) (k : KeptFormat) (walk : KeptWalk) (lines : KeptLineByLine) : Type 0 where
  pub can : CanGoBy is_tall t r k walk lines
  pub small : length (block_of t) < 2 ^ 33

abbrev pub CanFollowBy : Rest → Bool → KeptText → KeptRows → KeptFormat → KeptWalk → KeptLineByLine → Type 0
CanFollowBy Nothing is_tall t r k walk lines = Unit {0}
CanFollowBy (Read from joint) is_tall t r k walk lines = RiseWithin (length (block_of t)) from (drop joint t.joints)
CanFollowBy Lines is_tall t r k walk lines = CanGiveLines is_tall t r k walk lines

abbrev pub CanFollow : KeptText → KeptRows → KeptFormat → KeptGiving → Type 0
CanFollow t r k g = CanFollowBy g.rest g.is_tall t r k g.walk g.lines

-- no line of the picture is given
pub record LinesStart (bars : Bars) (width : ℕ) (t : KeptText) (r : KeptRows) (k : KeptFormat) (old new : KeptGiving) : Type 0 where
  pub can : CanGoBy new.is_tall t r k new.walk new.lines
  pub lines : lines_left_by new.is_tall t r k new.walk new.lines ≡ lines_laid bars width t r k
  pub pieces : new.pieces ≡ old.pieces
  pub rest : new.rest ≡ old.rest
  pub newline : new.has_newline ≡ old.has_newline
  pub frame : new.frame ≡ old.frame
  pub frame_end : new.frame_end ≡ old.frame_end
  pub columns : new.columns ≡ old.columns

-- behind the last piece nothing follows
abbrev pub IsLast : List Piece → Rest → Type 0
IsLast [] rest = rest ≡ Nothing
IsLast (piece ∷ pieces) rest = Unit {0}

-- all bytes to come can be given
pub record CanGive (t : KeptText) (r : KeptRows) (k : KeptFormat) (g : KeptGiving) : Type 0 where
  pub within : AreWithin (block_of t) g.frame g.pieces.pieces
  pub rest : CanFollow t r k g
  pub last : IsLast g.pieces.pieces g.rest

-- whatever the table is, nothing is to come
pub record GivesNothing (g : KeptGiving) : Type 0 where
  pub coming : (t : KeptText) (r : KeptRows) (k : KeptFormat) → coming t r k g ≡ []
  pub can : (t : KeptText) (r : KeptRows) (k : KeptFormat) → CanGive t r k g

abbrev pub kept_by : Inside → KeptGiving
kept_by a = record {
  pieces = a.pieces;
  rest = a.rest;
  has_newline = a.has_newline;
  walk = a.walk;
  lines = a.line_by_line;
  is_tall = a.is_tall;
  frame = a.frame.items;
  frame_end = a.frame_end;
  columns = a.walk.room;
}

-- the room is reserved
pub record IsSound (a : Inside) : Type 0 where
  pub frame : 96 ≤ vec_capacity a.frame
  pub end : a.frame_end ≤ length a.frame.items
  pub pieces : 4 ≤ a.pieces.room
  pub lines : a.line_by_line.tall.room ≡ a.walk.room
