use Rattle.std.proofs.Common.{◌≡◌, ◌+◌, ◌<◌, List, true, false, suc, ℕ, ap, drop, length, sym, ◌∙◌, arith}
use Rattle.tbl_data.proofs.RuleRows.{rule_rows-last, rule_rows-more, rule_rows-none}
use Rattle.tbl_format.specs.RowsServed.{all_rows, row_at}
use Rattle.tbl_format.specs.declared.format.FormatKey.{FormatKey}
use Rattle.tbl_layout.specs.RuleKeys.{is_rule_row, rule_rows}
use Rattle.tbl_data.proofs.served.behind_rule_rows.Goals as goal

pub loop-at-preserved : goal.loop-at-preserved
loop-at-preserved c =
    let all = all_rows c.args.format.now.format in
    let at = c.loop-at.at in
    let row = row_at all at in
    let more : at + 1 < length all = omega (arith, c.if-count-at-gt1.true, c.all_rows-count.ensures) in
    let is : is_rule_row row ≡ true =
    ap (λ (ks : List FormatKey). is_rule_row (record { keys = ks; bars = row.bars })) (sym c.row_of_all.ensures.keys) ∙ sym (c.is_rule_row.ensures row.bars) ∙ c.if-is_rule_row.true in
    let next : at + 1 ≡ suc at = omega arith in
    let same : rule_rows (drop (at + 1) all) ≡ rule_rows (drop (suc at) all) = ap (λ (n : ℕ). rule_rows (drop n all)) next in
    record {
      to = omega (arith, more);
      rules = omega (arith, c.loop-at.invariant.rules, rule_rows-more all at more is, same);
    }

pub returns-else-is_rule_row : goal.returns-else-is_rule_row
returns-else-is_rule_row c =
    let all = all_rows c.args.format.now.format in
    let at = c.loop-at.at in
    let row = row_at all at in
    let is : is_rule_row row ≡ false =
    ap (λ (ks : List FormatKey). is_rule_row (record { keys = ks; bars = row.bars })) (sym c.row_of_all.ensures.keys) ∙ sym (c.is_rule_row.ensures row.bars) ∙ c.if-is_rule_row.false in
    omega (arith, c.loop-at.invariant.rules, rule_rows-none all at is)

pub returns-else-count-at-gt1 : goal.returns-else-count-at-gt1
returns-else-count-at-gt1 c =
    let all = all_rows c.args.format.now.format in
    let at = c.loop-at.at in
    omega (arith, c.loop-at.invariant.rules, rule_rows-last all at (omega (arith, c.if-count-at-gt1.false, c.all_rows-count.ensures)))
