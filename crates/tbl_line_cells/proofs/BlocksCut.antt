-- A block's line that runs on, as far as it fits.
use Rattle.std.proofs.Common.{◌≡◌, ℕ, ◌+◌, ◌<◌, ◌==◌, Bool, true, false, List, [], ◌∷◌, get_or, map, Option, None, Some, refl, sym, ap, subst, ◌∙◌, arith, if◌then◌else◌, is_some, nat_lt, ltb-true, get_or-drop}
use Rattle.std.specs.Option.{MatchOption}
use Rattle.tbl_format.specs.declared.format.Key.{Key}
use Rattle.tbl_layout.specs.Columns.{place_in}
use Rattle.tbl_layout.specs.Entries.{Block as BlockField, Content, Run, block_line, columns_of, line_within}
use Rattle.tbl_layout.specs.KeptEntries.{block_lines, content_by, measure_by, stands_by}
use Rattle.tbl_layout.specs.declared.columns.Column.{Column}
use Rattle.tbl_layout.specs.declared.entry.BlockEntry.{BlockEntry}
use Rattle.tbl_layout.specs.declared.entry.Entry.{Entry}
use Rattle.tbl_layout.specs.declared.entry.EntryKind.{EntryKind}
use Rattle.tbl_layout.specs.declared.entry.EntryKind.TheVariants.{Block}
use Rattle.tbl_lines.proofs.EntriesFit.{line-wide}
use Rattle.tbl_lines.specs.CellsLeft.{Left}
use Rattle.tbl_lines.specs.LinesLeft.{Shown, cut_to, shown_cell}
use Rattle.tbl_lines.specs.RowsLeft.{begins_by, block_text, cell_left, lines_left_by}
use Rattle.tbl_line_cells.proofs.PartsCut.{first-fitted}
use Rattle.tbl_line_cells.proofs.RunningLaid.{first-place}
use Rattle.tbl_line_cells.proofs.TextsCut.{same-columns}
use Rattle.tbl_line_cells.specs.KeptCells.{BlockGoesOn, GoesOnBy}
use Rattle.tbl_line_cells.specs.LaidCells.{IsDrawn, IsRunning, IsShown, at_first, row_column, runs_at, with_room}
use Rattle.tbl_line_cells.specs.declared.laid_cells.LaidCell.{LaidCell}
use Rattle.tbl_line_cells.specs.declared.laid_cells.RunsOn.{RunsOn}
use Rattle.tbl_text.proofs.CutParts.{within-place}
use Rattle.tbl_text.specs.BlockLines.{first_line, line_width, lines_of}
use Rattle.tbl_text.specs.BlockPlaces.{ReadsAll, parts_at, place_within}
use Rattle.tbl_text.specs.BlockWords.{Part, parts_of}
use Rattle.tbl_text.specs.FittedWords.{line_fitted}
use Rattle.tbl_text.specs.declared.block_parts.BlockPlace.{BlockPlace}
use Rattle.tbl_text.specs.declared.block_parts.BlockPlace.TheVariants.{AtEnd, AtLine, AtLineWithin, Behind, BehindWithin}
use Rattle.tbl_text.specs.declared.block_parts.Room.{Room}

-- the first of some lines
first-of-lines : (measure : ℕ) (parts : List Part) → get_or (lines_of measure parts) 0 [] ≡ first_line measure parts
first-of-lines measure [] = refl
first-of-lines measure (p ∷ parts) = refl

first-shown : (measure : ℕ) (parts : List Part) → get_or (map block_line (lines_of measure parts)) 0 [] ≡ block_line (first_line measure parts)
first-shown measure [] = refl
first-shown measure (p ∷ parts) = refl

-- what is read from a place on in a room that begins there
abbrev whole_room : ℕ → Room
whole_room room = record { columns = room; is_first = true }

parts-within : (block : List ℕ) (room : ℕ) (place : BlockPlace) → ReadsAll place
    → parts_at block (place_within (whole_room room) place) ≡ line_fitted room (parts_at block place)
parts-within block room (AtLine line before) all = refl
parts-within block room (Behind at end ends) all = refl
parts-within block room AtEnd all = refl
parts-within block room (AtLineWithin line before other) all = absurd all
parts-within block room (BehindWithin at end ends other) all = absurd all

module _ (bytes : List ℕ) (c : LaidCell) (s : Shown) (r : RunsOn) (own : Left) (is : IsShown bytes c s) (run : IsRunning bytes c s.at r own) (b : BlockEntry)
    (kind : c.entry.kind ≡ Block b) where
  abbrev e : Entry
  e = c.entry

  abbrev block : List ℕ
  block = block_text bytes e

  abbrev parts : List Part
  parts = parts_at block c.place

  abbrev line : List Part
  line = first_line b.measure parts

  abbrev lines : List (List ℕ)
  lines = block_lines bytes e.from e.to

  -- its columns
  block-columns : columns_of s.runs ≡ line_width line
  block-columns =
      sym (same-columns (cell_left bytes 0 (row_column c)) (shown_cell s) is.drawn.shows)
      ∙ ap (λ (k : EntryKind). columns_of (get_or (lines_left_by k bytes 0 c.column 0 e c.place) 0 [])) kind
      ∙ ap columns_of (first-shown b.measure parts)
      ∙ line-wide line

  goes-on : BlockGoesOn bytes e b c.place own.gone
  goes-on = subst (λ (k : EntryKind). GoesOnBy k bytes e c.place own.gone) kind run.place

  block-field : BlockField b.measure lines ≡ own.field
  block-field = ap (λ (k : EntryKind). content_by k bytes e.from e.to) (sym kind) ∙ run.field

  -- the line is that of the field
  line-is : get_or (lines_of b.measure (parts_of lines)) own.gone [] ≡ line
  line-is =
      let all = lines_of b.measure (parts_of lines) in
      ap (λ (n : ℕ). get_or all n []) (omega arith)
      ∙ sym (get_or-drop own.gone all 0 [])
      ∙ ap (λ (ls : List (List Part)). get_or ls 0 []) (sym goes-on.lines)
      ∙ first-of-lines b.measure parts

  -- it stands where it stood
  block-begins : begins_by e.kind c.column c.key e ≡ s.at
  block-begins =
      let empty = e.from == e.to in
      let start = c.column.start in
      ap (λ (k : EntryKind). begins_by k c.column c.key e) kind
      ∙ ap (λ (x : Column). start + place_in x c.key (stands_by c.key e.kind empty)) run.first
      ∙ ap (λ (k : Key). start + place_in (at_first c.column.bars start) k (stands_by k e.kind empty)) run.left
      ∙ ap (λ (m : ℕ). start + m) (first-place e.kind empty c.column.bars start)
      ∙ omega (arith, run.start)

  module _ (room : ℕ) where
    abbrev cut_runs : List Run
    cut_runs = line_within room own.key.key own.field own.gone

    lines-cut : room < line_width line
        → get_or (lines_left_by e.kind bytes 0 c.column 0 e (place_within (whole_room room) c.place)) 0 [] ≡ cut_runs
    lines-cut wide =
        ap (λ (k : EntryKind). get_or (lines_left_by k bytes 0 c.column 0 e (place_within (whole_room room) c.place)) 0 []) kind
        ∙ first-shown b.measure (parts_at block (place_within (whole_room room) c.place))
        ∙ ap (λ (ps : List Part). block_line (first_line b.measure ps)) (parts-within block room c.place goes-on.all)
        ∙ ap block_line (first-fitted b.measure parts room wide)
        ∙ ap (λ (l : List Part). block_line (line_fitted room l)) (sym line-is)
        ∙ ap (λ (f : Content). line_within room own.key.key f own.gone) block-field

    cut-drawn : room < line_width line → IsDrawn bytes (with_room room c) (record s { runs = cut_runs })
    cut-drawn wide = record {
      shows =
          ap (λ (runs : List Run). runs_at runs (begins_by e.kind c.column c.key e)) (lines-cut wide)
          ∙ ap (runs_at cut_runs) block-begins;
      text = is.drawn.text;
      lies = is.drawn.lies;
      within = within-place block (whole_room room) c.place is.drawn.within;
      narrow = is.drawn.narrow;
      ends = is.drawn.ends;
    }

    abbrev shown_cut : Bool → Shown
    shown_cut more = if more then record s { runs = cut_runs } else s

    by-case : (more : Bool) → nat_lt room (line_width line) ≡ more
        → MatchOption (if more then Some (with_room room c) else None) (shown_cut more ≡ s) (λ x. IsDrawn bytes x (shown_cut more))
    by-case true wide = cut-drawn (ltb-true room (line_width line) wide)
    by-case false fits = refl

    abbrev cell_cut : EntryKind → Option LaidCell
    cell_cut k = if nat_lt room (line_width (first_line (measure_by k) parts)) then Some (with_room room c) else None

    pub block-cut : (result : Option LaidCell) → result ≡ cell_cut e.kind
        → MatchOption result (cut_to room own s ≡ s) (λ x. IsDrawn bytes x (cut_to room own s))
    block-cut result is_result =
        let P : Option LaidCell → Bool → Type 0 = λ o more. MatchOption o (shown_cut more ≡ s) (λ x. IsDrawn bytes x (shown_cut more)) in
        subst (λ (o : Option LaidCell). P o (nat_lt room (columns_of s.runs))) (sym (is_result ∙ ap cell_cut kind))
        (subst (λ (n : ℕ). P (cell_cut (Block b)) (nat_lt room n)) (sym block-columns) (by-case (nat_lt room (line_width line)) refl))

    some-if : (more : Bool) → is_some (if more then Some (with_room room c) else None) ≡ more
    some-if true = refl
    some-if false = refl

    pub block-first : (result : Option LaidCell) → result ≡ cell_cut e.kind → is_some result ≡ nat_lt room (columns_of s.runs)
    block-first result is_result =
        ap (λ (o : Option LaidCell). is_some o) (is_result ∙ ap cell_cut kind)
        ∙ some-if (nat_lt room (line_width line))
        ∙ ap (nat_lt room) (sym block-columns)
