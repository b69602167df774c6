-- What a step does that gives a cell of a line.
use Rattle.std.proofs.Common.{◌≡◌, ℕ, zero, suc, ◌+◌, ◌-◌, ◌≤◌, max, List, [], ◌∷◌, ◌++◌, replicate, sym, ap, subst, ◌∙◌, arith}
use Rattle.input_source.specs.Bytes.{blank}
use Rattle.tbl_layout.specs.Entries.{Run}
use Rattle.tbl_pieces.specs.PieceQueue.{Adds, KeptPieces}
use Rattle.tbl_lines.specs.RowsLeft.{begins_at, behind_first, block_text, cell_left, end_given, first_of, given, if_given, one_less}
use Rattle.tbl_lines.specs.RowsWalked.{LastHasGlyph}
use Rattle.tbl_picture.specs.Walks.{AtColumn, IsNear, KeptWalk, RowSteps, WalkedRow, passed, reached_by}
use Rattle.tbl_lines.specs.declared.row_columns.RowColumn.{RowColumn}
use Rattle.tbl_picture.specs.Nexts.{AtCell}
use Rattle.tbl_pieces.proofs.Adding.{adds-fewer, adds-none}
use Rattle.tbl_lines.proofs.CellsGiven.{none-given, run-given}
use Rattle.tbl_picture.proofs.PlaceReached.{given-reached, near-less}
use Rattle.tbl_picture.proofs.ColumnSteps.{cell-passed, cells-first, cells_behind}
use Rattle.tbl_lines.proofs.RunsGiven.{glyph-first, last_given}
use Rattle.tbl_text.specs.BlockPlaces.{IsWithin}
use Rattle.tbl_text.specs.declared.block_parts.BlockPlace.{BlockPlace}

-- a text that is given ends within it
pub end-within : (count glyphs to : ℕ) → end_given count glyphs to ≤ to
end-within zero glyphs to = omega arith
end-within (suc zero) glyphs to = omega arith
end-within (suc (suc n)) glyphs to = omega arith

module _ (row : WalkedRow) (w : KeptWalk) (r : RowColumn) (at : AtColumn row w r) (next : w.next ≡ AtCell) where
  -- a cell of one run
  pub run-steps : (frame : List ℕ) (before after : KeptPieces) (run : Run) (gap reached : ℕ)
      → first_of (cell_left row.bytes w.line r) ≡ run ∷ []
      → cell_left row.bytes (suc w.line) (record r { place = r.place }) ≡ behind_first (cell_left row.bytes w.line r)
      → gap ≡ begins_at r - w.place → reached ≡ reached_by w.count w.place (begins_at r) run.columns → IsNear (one_less w.count) reached
      → Adds row.bytes frame 4 before after (if_given w.count (replicate gap blank) ++ last_given w.count run)
      → RowSteps frame row w (passed row.bars.has_any r.place reached w) before after
  run-steps frame before after run gap reached first moved gap_is reached_is near adds =
      let cell = cell_left row.bytes w.line r in
      let cells = cells_behind row w r at in
      let last = last_given w.count run in
      let has = glyph-first w.count cell cells (subst (LastHasGlyph w.count) (cells-first row w r at) at.line.last) in
      cell-passed row w r at frame before after r.place reached (if_given w.count (replicate gap blank) ++ last) next adds near at.within moved
      (run-given w.count w.place cell run cells first has
      ∙ ap (λ (n : ℕ). (if_given w.count (replicate n blank) ++ last) ++ given (one_less w.count) (max (begins_at r) w.place + run.columns) cells) (sym gap_is)
      ∙ ap (λ (bytes : List ℕ). (if_given w.count (replicate gap blank) ++ last) ++ bytes) (given-reached w.count w.place (begins_at r) run.columns cells)
      ∙ ap (λ (n : ℕ). (if_given w.count (replicate gap blank) ++ last) ++ given (one_less w.count) n cells) (sym reached_is))

  -- a cell of none
  pub none-steps : (frame : List ℕ) (pieces : KeptPieces) (p : BlockPlace) → first_of (cell_left row.bytes w.line r) ≡ []
      → cell_left row.bytes (suc w.line) (record r { place = p }) ≡ behind_first (cell_left row.bytes w.line r)
      → IsWithin (block_text row.bytes r.entry) p
      → RowSteps frame row w (passed row.bars.has_any p w.place w) pieces pieces
  none-steps frame pieces p first moved within =
      cell-passed row w r at frame pieces pieces p w.place [] next
      (adds-fewer row.bytes frame 0 4 pieces pieces [] (omega arith) (adds-none row.bytes frame pieces))
      (near-less w.count w.place at.line.on.near) within moved
      (none-given w.count w.place (cell_left row.bytes w.line r) (cells_behind row w r at) first)
