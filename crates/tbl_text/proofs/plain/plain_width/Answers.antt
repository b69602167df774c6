use Rattle.std.proofs.Common.{sym, ◌∙◌}
use Rattle.tbl_text.proofs.PlainTexts.{all_ascii-width, plain-width}
use Rattle.tbl_text.proofs.plain.plain_width.Goals as goal

pub returns-then-is_ascii-clause-value : goal.returns-then-is_ascii-clause-value
returns-then-is_ascii-clause-value c =
    sym (plain-width c.args.bytes.now c.requires ∙ all_ascii-width c.args.bytes.now c.if-is_ascii.ensures.cases)

pub returns-clause-value : goal.returns-clause-value
returns-clause-value c = c.width_by_bytes.ensures.value ∙ sym (plain-width c.args.bytes.now c.requires)
