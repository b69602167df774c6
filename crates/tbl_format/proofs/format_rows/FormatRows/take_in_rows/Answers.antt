use Rattle.std.proofs.Common.{◌≡◌, true, ap, sym, ◌∙◌, arith}
use Rattle.tbl_format.specs.Format.{stepped}
use Rattle.tbl_format.specs.FormatRows.{KeptFormat, key_count}
use Rattle.tbl_format.specs.FormatSteps.{step}
use Rattle.tbl_format.specs.declared.format_step.FormatStep.{FormatStep}
use Rattle.tbl_format.proofs.FormatReading.{columns-first, keys-again}
use Rattle.tbl_format.proofs.format_rows.FormatRows.take_in_rows.Goals as goal

pub take_step-requires-clause-columns : goal.take_step-requires-clause-columns
take_step-requires-clause-columns c =
    let f = c.args.self.now.format in
    omega (arith, c.requires.columns, columns-first c.args.front.now f c.args.byte c.args.part c.step-first.result c.requires.part c.step-first.ensures)

pub take_step-requires-then-first-clause-keys : goal.take_step-requires-then-first-clause-keys
take_step-requires-then-first-clause-keys c =
    let f = c.args.self.now.format in
    let again : (step c.args.part c.args.front.now c.args.byte).is_again ≡ true =
    ap (λ (s : FormatStep). s.is_again) (sym c.step-first.ensures) ∙ c.if-first.true in
    let keys = ap (λ (s : FormatStep). key_count (stepped s f)) c.step-first.ensures ∙ keys-again c.args.part c.args.front.now c.args.byte f again in
    let count = ap (λ (k : KeptFormat). key_count k.format) c.take_step.ensures in
    let room = ap (λ (k : KeptFormat). k.key_room) c.take_step.ensures in
    omega (arith, keys, count, room, c.requires.keys)
