use Rattle.std.proofs.Common.{◌+◌, ◌∙◌, ap, sym}
use Rattle.tbl_layout.specs.DataLines.{opens_block}
use Rattle.tbl_layout.proofs.LastField.{last_alone, last_behind, lent_behind}
use Rattle.tbl_layout.proofs.data_lines.ends_in_block.Goals as goal

-- src/data_lines.rt:129:1
pub returns-in-Some : goal.returns-in-Some
returns-in-Some c =
    c.opens_block.ensures
    ∙ ap opens_block (lent_behind (c.in-Some.at + 1) c.args.text.now)
    ∙ sym (last_behind c.args.separator c.args.text.now c.in-Some.at c.in-Some.ensures.0.high c.in-Some.ensures.1 c.in-Some.ensures.0.after)

-- src/data_lines.rt:129:1
pub returns-in-None : goal.returns-in-None
returns-in-None c = c.opens_block-in-None.ensures ∙ sym (last_alone c.args.separator c.args.text.now c.in-None.ensures)
