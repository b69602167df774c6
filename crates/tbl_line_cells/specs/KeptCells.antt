-- What is kept of the cells of a row, from line to line of the picture (Lesk, "Tbl": Format).
use Rattle.std.specs.Prelude.{◌≡◌, ℕ, zero, suc, ◌==◌, List, [], ◌∷◌, drop, if◌then◌else◌}
use Rattle.tbl_format.specs.declared.format.FormatKey.{FormatKey}
use Rattle.tbl_format.specs.declared.format.Standing.{Standing}
use Rattle.tbl_layout.specs.KeptEntries.{IsLaid, Lies, block_lines, content_of}
use Rattle.tbl_layout.specs.declared.entry.BlockEntry.{BlockEntry}
use Rattle.tbl_layout.specs.declared.entry.Entry.{Entry}
use Rattle.tbl_layout.specs.declared.entry.EntryKind.{EntryKind}
use Rattle.tbl_layout.specs.declared.entry.EntryKind.TheVariants.{Block}
use Rattle.tbl_lines.specs.CellsLeft.{Left, drop_of}
use Rattle.tbl_lines.specs.LinesLeft.{rule_here}
use Rattle.tbl_lines.specs.PictureLeft.{through_rule}
use Rattle.tbl_lines.specs.RowsLeft.{block_text}
use Rattle.tbl_line_cells.specs.declared.cells.CellLeft.{CellLeft}
use Rattle.tbl_text.specs.BlockLines.{lines_of}
use Rattle.tbl_text.specs.BlockPlaces.{IsWithin, ReadsAll, parts_at}
use Rattle.tbl_text.specs.BlockWords.{parts_of}
use Rattle.tbl_text.specs.declared.block_parts.BlockPlace.{BlockPlace}

-- a block goes on at a place, from which all is read, behind so many of its lines
pub record BlockGoesOn (bytes : List ℕ) (e : Entry) (b : BlockEntry) (place : BlockPlace) (gone : ℕ) : Type 0 where
  pub within : IsWithin (block_text bytes e) place
  pub all : ReadsAll place
  pub lines : lines_of b.measure (parts_at (block_text bytes e) place)
      ≡ drop gone (lines_of b.measure (parts_of (block_lines bytes e.from e.to)))

abbrev pub GoesOnBy : EntryKind → List ℕ → Entry → BlockPlace → ℕ → Type 0
GoesOnBy (Block b) bytes e place gone = BlockGoesOn bytes e b place gone
GoesOnBy kind bytes e place gone = gone ≡ 0

-- a cell is kept as it is left
pub record IsLeft (bytes : List ℕ) (c : CellLeft) (l : Left) : Type 0 where
  pub key : c.key ≡ l.key
  pub field : content_of bytes c.entry ≡ l.field
  pub lead : c.lead ≡ l.lead
  pub rows : c.rows ≡ l.rows
  pub used : c.is_used ≡ l.is_used
  pub stop : c.stop ≡ l.stop
  pub cut : c.is_cut ≡ l.is_cut
  pub lies : Lies bytes c.entry
  pub within : IsWithin (block_text bytes c.entry) c.place
  pub place : GoesOnBy c.entry.kind bytes c.entry c.place l.gone
  pub laid : IsLaid bytes c.key.key c.entry

-- all cells of a row are
abbrev pub AllLeft : List ℕ → List CellLeft → List Left → Type 0
AllLeft bytes [] [] = Unit {0}
AllLeft bytes [] (l ∷ lefts) = ⊥
AllLeft bytes (c ∷ cells) [] = ⊥
AllLeft bytes (c ∷ cells) (l ∷ lefts) = IsLeft bytes c l × AllLeft bytes cells lefts

pub record AreKept (bytes : List ℕ) (cells : List CellLeft) : Type 0 where
  pub lefts : List Left
  pub left : AllLeft bytes cells lefts

-- a cell behind so many lines of rules in front of its row
abbrev pub behind_rules : ℕ → Left → Left
behind_rules zero l = l
behind_rules (suc rules) l = behind_rules rules (through_rule l)

-- what is kept shows the rule that a cell shows on its line, if it shows one, and none else
pub record ShowsRule (bytes : List ℕ) (c : CellLeft) (l : Left) : Type 0 where
  pub shown : Left
  pub is : IsLeft bytes c shown
  pub rule : rule_here shown ≡ rule_here l

-- a key is that of a cell, among those of all cells of a row
abbrev pub IsKeyAt : FormatKey → ℕ → List FormatKey → Type 0
IsKeyAt k cell keys = drop cell keys ≡ k ∷ drop (suc cell) keys

-- how many lines stand above a field in a cell that has so many, and so many of them below its row
abbrev pub lead_by : ℕ → Standing → ℕ → ℕ → ℕ
lead_by more standing lines all = if more == 0 then 0 else drop_of standing lines all
