use Rattle.std.proofs.Common.{not, drop, ◌+◌, rules, ◌<◌, ℕ, max, length, ap, ◌∙◌, if◌then◌else◌, is_some}
use Rattle.tbl_layout.specs.Columns.{greatest}
use Rattle.tbl_layout.specs.Heights.{ending_from}
use Rattle.tbl_kept.specs.KeptHeights.{seen}
use Rattle.tbl_kept.proofs.CellHeights.{high-next}
use Rattle.tbl_kept.proofs.rows.cell_heights.highest.Goals as goal

pub loop-cell-preserved : goal.loop-cell-preserved
loop-cell-preserved c = record {
  high = λ bytes bars.
      let left = c.args.left.now in
      let cell = c.loop-cell.cell in
      let found = c.cell_below-found.result in
      let more : cell < length left = search rules in
      let behind = greatest (ending_from c.args.keys.now (seen bytes bars c.args.below.keys.now c.args.below.entries.now) (cell + 1) (drop (cell + 1) left)) in
      ap (λ (h : ℕ). max h behind) (c.higher-height.ensures ∙ ap (λ (n : ℕ). max c.loop-cell.height (if not (is_some found) then n else 0)) c.left_at.ensures)
      ∙ high-next bytes bars c.args.keys.now c.args.below.keys.now c.args.below.entries.now left cell c.loop-cell.height found more (c.cell_below-found.ensures bytes bars)
      ∙ c.loop-cell.invariant.high bytes bars;
}
