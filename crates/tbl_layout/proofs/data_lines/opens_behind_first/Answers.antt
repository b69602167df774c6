use Rattle.std.proofs.Common.{ℕ, ◌+◌, ◌≤◌, ◌<◌, length, drop, ◌∙◌, ap, sym, arith}
use Rattle.tbl_layout.specs.Data.{fields}
use Rattle.tbl_layout.specs.DataLines.{ends_in_block}
use Rattle.tbl_layout.proofs.Fields.{field_len}
use Rattle.tbl_layout.proofs.LastField.{fields_more, fields_none, lent_behind}
use Rattle.tbl_layout.proofs.data_lines.opens_behind_first.Goals as goal

-- src/data_lines.rt:177:9
pub returns-then-len-text : goal.returns-then-len-text
returns-then-len-text c =
    let text = c.args.text.now in
    let more : field_len c.args.separator text < length text = omega (arith, c.field_len-len.ensures.value, c.if-len-text.true) in
    c.ends_in_block.ensures
    ∙ ap (λ rest. ends_in_block (fields c.args.separator rest)) (lent_behind (c.field_len-len.result + 1) text)
    ∙ ap (λ (n : ℕ). ends_in_block (fields c.args.separator (drop (n + 1) text))) c.field_len-len.ensures.value
    ∙ sym (ap ends_in_block (fields_more c.args.separator text more))

-- src/data_lines.rt:172:1
pub returns : goal.returns
returns c =
    let none : length c.args.text.now ≤ field_len c.args.separator c.args.text.now = omega (arith, c.field_len-len.ensures.value, c.if-len-text.false) in
    sym (ap ends_in_block (fields_none c.args.separator c.args.text.now none))
