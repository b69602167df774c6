use Rattle.std.proofs.Common.{ℕ, ◌-◌, map, ap, ◌∙◌, arith}
use Rattle.tbl_layout.specs.Heights.{height_in_front_of}
use Rattle.tbl_kept.specs.KeptHeights.{seen}
use Rattle.tbl_kept.proofs.rows.heights.pass_row.Goals as goal

pub returns-clause-left : goal.returns-clause-left
returns-clause-left c = λ bytes bars laid.
    let keys = c.args.cells.keys.now in
    let rest = seen bytes bars c.args.below.keys.now c.args.below.entries.now in
    let here = rw c.as_slice-lines_above.ensures.value at (c.fill_lefts.ensures.items bytes bars laid) in
    rw c.swap.ensures.y_after (record {
      high = (rw c.as_slice.ensures.value at (c.highest-height.ensures bytes bars)) ∙ ap (height_in_front_of keys rest) here;
      left = c.lower_all.ensures.items ∙ ap (map (λ (n : ℕ). n - c.highest-height.result)) here;
    })

pub returns-clause-room : goal.returns-clause-room
returns-clause-room c = λ n old. record {
  here = rw c.swap.ensures.x_after old.above;
  above = rw c.swap.ensures.y_after (omega (arith, old.here, c.lower_all.ensures.capacity, c.fill_lefts.ensures.capacity));
}
