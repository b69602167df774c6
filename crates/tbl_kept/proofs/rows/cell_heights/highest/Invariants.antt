use Rattle.std.proofs.Common.{◌≡◌, ℕ, max, List, drop}
use Rattle.tbl_layout.specs.Columns.{greatest}
use Rattle.tbl_layout.specs.Heights.{ending_from, height_in_front_of}
use Rattle.tbl_kept.specs.KeptHeights.{seen}
use Rattle.tbl_kept.proofs.rows.cell_heights.highest.Given as goal

abbrev pub invariant-loop-cell : goal.invariant-loop-cell
invariant-loop-cell l = record {
  high : (bytes : List ℕ) (bars : ℕ)
      → max l.height (greatest (ending_from l.keys (seen bytes bars l.below.keys.now l.below.entries.now) l.cell (drop l.cell l.left)))
      ≡ height_in_front_of l.keys (seen bytes bars l.below.keys.now l.below.entries.now) l.left;
}
