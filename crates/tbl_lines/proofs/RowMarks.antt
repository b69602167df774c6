-- What stands at a place among the cells of a line and what stands in front of them.
use Rattle.std.proofs.Common.{◌≡◌, ℕ, zero, suc, ◌+◌, ◌*◌, ◌≤◌, ◌<◌, Bool, true, false, List, [], ◌∷◌, length, drop, map, refl, sym, ap, subst, ◌∙◌, arith}
use Rattle.std.proofs.lemmas.List.{length-map}
use Rattle.tbl_layout.specs.Entries.{up_to_last_glyph}
use Rattle.tbl_lines.specs.PictureLines.{Cell, with_fronts}
use Rattle.tbl_lines.specs.RowsLeft.{cell_left, cell_of_front, first_cell, first_of, from_line, is_there, row_columns}
use Rattle.tbl_lines.specs.RowsWalked.{HasBars, HasGlyph, PlacesLie, front_count}
use Rattle.tbl_lines.specs.RowsLent.{HasFronts, WalkedRow, fronts_of, line_cells, row_fronts_of}
use Rattle.tbl_lines.specs.declared.fronts.Front.{Front}
use Rattle.tbl_lines.specs.declared.row_columns.RowColumn.{RowColumn}
use Rattle.tbl_text.specs.declared.block_parts.BlockPlace.{BlockPlace}
use Rattle.tbl_lines.proofs.FrontCells.{count-fronts, front-glyph, front-glyphless, length-fronts, no-fronts, with-even, with-odd, with-past}
use Rattle.tbl_lines.proofs.RowColumns.{length-row_columns, map-at}

-- the first of some cells
pub first-left : (n : ℕ) (cells : List Cell) → n < length cells → drop n cells ≡ first_cell (drop n cells) ∷ drop (suc n) cells
first-left n [] few = absurd (omega (arith, few))
first-left zero (c ∷ cells) few = refl
first-left (suc n) (c ∷ cells) few = first-left n cells (omega (arith, few))

-- whether what stands there has a glyph
pub record Marks (cells : List Cell) (at : ℕ) (t : Bool) : Type 0 where
  pub yes : t ≡ true → HasGlyph (first_of (first_cell (drop at cells)))
  pub no : t ≡ false → up_to_last_glyph (first_of (first_cell (drop at cells))) ≡ []

module _ (row : WalkedRow) (line : ℕ) (places : List BlockPlace) where
  abbrev pub cells : List Cell
  cells = line_cells row line places

  abbrev pub columns : List RowColumn
  columns = row_columns row.bars.boxing row.format 0 row.columns row.entries places

  abbrev fields : List Cell
  fields = map (cell_left row.bytes line) columns

  abbrev pub these : List Cell
  these = row_fronts_of row

  -- in a picture without bars there are the fields alone
  pub plain-cells : row.bars.has_any ≡ false → cells ≡ fields
  plain-cells none = ap (λ (fronts : List Cell). with_fronts fronts fields) (no-fronts row line none)

  module _ (short : length row.entries ≤ length row.columns) (lie : PlacesLie row.bytes row.entries places) where
    pub many-fields : length fields ≡ length row.entries
    many-fields =
        length-map columns (cell_left row.bytes line)
        ∙ length-row_columns row.bars.boxing row.format row.bytes 0 row.columns row.entries places short lie

    module _ (has_fronts : HasFronts row) (any : row.bars.has_any ≡ true) where
      many-fronts-now : length (fronts_of row line) ≡ front_count row.columns
      many-fronts-now =
          length-map these (from_line line) ∙ count-fronts row has_fronts any

      pub many-cells : length cells ≡ front_count row.columns + length row.entries
      many-cells = omega (arith, length-fronts (fronts_of row line) fields, many-fields, many-fronts-now)

      -- one of the fronts
      front-at : (i : ℕ) (f : Front) → drop i these ≡ cell_of_front f ∷ drop (suc i) these
          → first_cell (drop i (fronts_of row line)) ≡ from_line line (cell_of_front f)
      front-at i f is = ap first_cell (map-at (from_line line) i these (cell_of_front f) is)

      front-marks : (at i : ℕ) (f : Front) → drop i these ≡ cell_of_front f ∷ drop (suc i) these → HasBars f
          → first_cell (drop at cells) ≡ first_cell (drop i (fronts_of row line)) → (t : Bool) → t ≡ is_there f → Marks cells at t
      front-marks at i f is has same t found =
          let this : from_line line (cell_of_front f) ≡ first_cell (drop at cells) = sym (same ∙ front-at i f is) in
          record {
            yes = λ yes. subst (λ (c : Cell). HasGlyph (first_of c)) this (front-glyph f line has (sym found ∙ yes));
            no = λ no. ap (λ (c : Cell). up_to_last_glyph (first_of c)) (sym this) ∙ front-glyphless f line has (sym found ∙ no);
          }

      -- behind the last field
      pub past-marks : (at i : ℕ) (f : Front) → at ≡ length row.entries + i → length row.entries ≤ i
          → drop i these ≡ cell_of_front f ∷ drop (suc i) these → HasBars f → (t : Bool) → t ≡ is_there f → Marks cells at t
      past-marks at i f place past is has t found =
          front-marks at i f is has
          (ap first_cell (with-past (fronts_of row line) fields at i (omega (arith, short, many-fields, many-fronts-now))
          (omega (arith, place, many-fields)) (omega (arith, past, many-fields)))) t found

      -- in front of a field, or behind the last
      pub even-marks : (at i : ℕ) (f : Front) → at ≡ 2 * i → i ≤ length row.entries
          → drop i these ≡ cell_of_front f ∷ drop (suc i) these → HasBars f → (t : Bool) → t ≡ is_there f → Marks cells at t
      even-marks at i f place within is has t found =
          front-marks at i f is has
          (with-even (fronts_of row line) fields at i (omega (arith, short, many-fields, many-fronts-now)) place
          (omega (arith, within, many-fields))) t found

      -- a field
      pub odd-cell : (at i : ℕ) → at ≡ 2 * i + 1 → i < length row.entries → first_cell (drop at cells) ≡ first_cell (drop i fields)
      odd-cell at i place within =
          with-odd (fronts_of row line) fields at i (omega (arith, short, many-fields, many-fronts-now)) place
          (omega (arith, within, many-fields))
