use Rattle.std.proofs.Common.{◌≡◌, ℕ, suc, ◌+◌, ◌-◌, length, refl, ap, sym, subst, arith}
use Rattle.tbl_format.specs.RowsServed.{all_rows, row_at}
use Rattle.tbl_picture.specs.RulesWalked.{LastIs, LengthsAre, rows_at}
use Rattle.tbl_picture.specs.declared.walk.rules.RuleLine.TheVariants.{OfKeys as KeysBegun}
use Rattle.tbl_picture.proofs.walk.rule_rows.rule_row_behind.Goals as goal

pub lengths_behind-requires-clause-lengths : goal.lengths_behind-requires-clause-lengths
lengths_behind-requires-clause-lengths c =
    let formats = all_rows c.args.format.now.format in
    let first : suc c.args.row ≡ c.args.row + 2 - 1 = omega arith in
    let count : c.args.left ≡ c.args.left - 1 + 1 = omega (arith, c.requires.some) in
    subst (λ (n : ℕ). LengthsAre (rows_at formats n (c.args.left - 1 + 1)) c.args.rule.below.rules) first
    (subst (λ (n : ℕ). LengthsAre (rows_at formats (suc c.args.row) n) c.args.rule.below.rules) count c.requires.lengths)

pub returns : goal.returns
returns c =
    let formats = all_rows c.args.format.now.format in
    let row = c.args.row in
    let first : row + 2 ≡ suc (suc row) = omega arith in
    let next : row + 1 ≡ suc row = omega arith in
    let rules = c.lengths_behind.result in
    record {
      line = ap (λ (n : ℕ). KeysBegun n (c.args.left - 1)) next;
      column = refl;
      from = c.first_start.ensures;
      above = refl;
      below = refl;
      shown_above = λ boxing line seen shown.
          c.lengths_above.ensures boxing line seen (row_at formats row) (ap length (sym c.row_of_all-keys.ensures.keys)) shown;
      lengths_below = subst (λ (n : ℕ). LengthsAre (rows_at formats n (c.args.left - 1)) rules) first c.lengths_behind.ensures.lengths;
      last_below = subst (λ (n : ℕ). LastIs formats n (c.args.left - 1) rules) first c.lengths_behind.ensures.last;
      left = refl;
      right = refl;
    }
