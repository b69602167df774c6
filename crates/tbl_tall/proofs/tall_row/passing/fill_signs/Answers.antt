use Rattle.std.proofs.Common.{ℕ, List, [], ◌∷◌, Option, None, get_or, length, ap, ◌∙◌, arith, length-append}
use Rattle.tbl_format.specs.RowsServed.{all_rows}
use Rattle.tbl_layout.specs.declared.data_lines.RuleSign.{RuleSign}
use Rattle.tbl_lines.specs.LinesLeft.{over_at, sign_at}
use Rattle.tbl_tall.proofs.RuleGivens.{signs-next}
use Rattle.tbl_tall.proofs.tall_row.passing.fill_signs.Goals as goal
use Rattle.tbl_tall.specs.Bands.{kept_band, line_given}

pub loop-column-preserved : goal.loop-column-preserved
loop-column-preserved c =
    let i = c.loop-column.invariant in
    let at = c.loop-column.column in
    let xs = c.loop-column.signs.items in
    let v = c.sign-sign.result in
    let line = line_given (all_rows c.args.format.now.format) (kept_band c.args.band.now) c.args.whole in
    record {
      many = omega (arith, ap length c.push_reserved.ensures.items, length-append xs (v ∷ []), i.many);
      capacity = c.push_reserved.ensures.capacity ∙ i.capacity;
      drawn = λ all through column few.
          ap (λ (ys : List (Option RuleSign)). get_or ys column None) c.push_reserved.ensures.items
          ∙ signs-next (λ (n : ℕ). sign_at line (over_at all n) n) xs v at i.many (c.sign-sign.ensures all through) (i.drawn all through) column few;
    }
