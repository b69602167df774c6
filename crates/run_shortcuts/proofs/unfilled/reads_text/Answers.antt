use Rattle.std.proofs.Common.{◌≡◌, arith, sym, ◌∙◌}
use Rattle.std.proofs.lemmas.Bool.Decides.{nat_tests}
use Rattle.run_shortcuts.specs.Unfilled.{BehindGlyph, FromFirst}
use Rattle.run_shortcuts.proofs.unfilled.reads_text.Goals as goal

pub returns-then-line : goal.returns-then-line
returns-then-line c = λ so.
    let none : c.in-Text.line.leading ≡ 0 = grind (arith, nat_tests) in
    BehindGlyph c.in-Text.line (sym c.reading.ensures ∙ c.in-Text.is) c.if-line.true none

pub returns-then-begin_with_text : goal.returns-then-begin_with_text
returns-then-begin_with_text c = λ so.
    FromFirst (sym c.reading.ensures ∙ c.in-LineStart.is) (c.begin_with_text.ensures.text c.if-begin_with_text.true) (c.begins_line.ensures so)
