use Rattle.std.proofs.Common.{◌∙◌, ap, sym}
use Rattle.run_model.specs.Reading.TextLines.{glyph_taking}
use Rattle.run_model.proofs.line_state.TextLine.glyph.Goals as goal

pub returns-in-Printed : goal.returns-in-Printed
returns-in-Printed c = λ i. c.printed.ensures i ∙ ap (λ g. glyph_taking i c.args.self g) (sym c.in-Printed.is)

pub returns-in-Blanks : goal.returns-in-Blanks
returns-in-Blanks c = λ i. c.printed-in-Blanks.ensures i ∙ ap (λ g. glyph_taking i c.args.self g) (sym c.in-Blanks.is)
