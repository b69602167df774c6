-- The cells of a row of which none goes on with one above it or below it, by what is left of them (Lesk, "Tbl": Format).
use Rattle.std.specs.Prelude.{◌≡◌, ℕ, zero, suc, false, List, [], ◌∷◌, ⊤}
use Rattle.std.specs.List.{AllByRecursion}
use Rattle.tbl_format.specs.FormatRows.{AreWithin}
use Rattle.tbl_format.specs.declared.format.FormatKey.{FormatKey}
use Rattle.tbl_layout.specs.Entries.{Block, Command, Content, Element, Row, Rule, Text, field_at, is_entry}
use Rattle.tbl_layout.specs.declared.columns.Column.{Column}
use Rattle.tbl_lines.specs.CellsLeft.{Left, own_field}
use Rattle.tbl_lines.specs.RulePlaces.{HasPlaces}

-- what is left of a field behind so many lines: a block, or on the first line the field
abbrev pub field_behind : ℕ → Content → Content
field_behind zero field = own_field field
field_behind (suc line) (Block measure lines) = Block measure lines
field_behind (suc line) field = Text []

-- how many lines of it stand above
abbrev pub gone_behind : ℕ → Content → ℕ
gone_behind line (Block measure lines) = line
gone_behind line field = 0

-- a cell under a key behind so many lines
abbrev pub alone_at : ℕ → FormatKey → Content → Left
alone_at line k field = record {
  key = k;
  field = field_behind line field;
  lead = 0;
  gone = gone_behind line field;
  rows = 0;
  is_used = is_entry field;
  stop = 0;
  is_cut = false;
}

-- and those under these keys, the first of which has a cell with a number
abbrev pub alone_from : ℕ → ℕ → List FormatKey → List Content → List Left
alone_from line cell [] fields = []
alone_from line cell (k ∷ keys) fields = alone_at line k (field_at fields cell) ∷ alone_from line (suc cell) keys fields

-- keys without the letter `z`: what stands under them has a width
abbrev pub HaveWidth : List FormatKey → Type 0
HaveWidth keys = AllByRecursion (λ k. k.has_no_width ≡ false) keys

abbrev pub AllHaveWidth : List Element → Type 0
AllHaveWidth [] = ⊤
AllHaveWidth (Row rules format fields ∷ elements) = HaveWidth format.keys × AllHaveWidth elements
AllHaveWidth (Rule sign ∷ elements) = AllHaveWidth elements
AllHaveWidth (Command bytes ∷ elements) = AllHaveWidth elements

-- the cells of the rows of a table have no more columns than it
abbrev pub AllWithin : ℕ → List Element → Type 0
AllWithin columns [] = ⊤
AllWithin columns (Row rules format fields ∷ elements) = AreWithin columns format.keys × AllWithin columns elements
AllWithin columns (Rule sign ∷ elements) = AllWithin columns elements
AllWithin columns (Command bytes ∷ elements) = AllWithin columns elements

-- there are places for the bars of its rows, and of the rows of rule keys in front of them
abbrev pub AllPlaced : ℕ → List Column → List Element → Type 0
AllPlaced front columns [] = ⊤
AllPlaced front columns (Row rules format fields ∷ elements) =
    AllByRecursion (HasPlaces front columns) (format ∷ rules) × AllPlaced front columns elements
AllPlaced front columns (Rule sign ∷ elements) = AllPlaced front columns elements
AllPlaced front columns (Command bytes ∷ elements) = AllPlaced front columns elements
