use Rattle.std.proofs.lemmas.Bool.{eqb-true}
use Rattle.run_model.proofs.TextBytes.{printing_line, prints_text}
use Rattle.run_model.proofs.line_state.TextLine.prints.Goals as goal

pub returns-then-self-eq0 : goal.returns-then-self-eq0
returns-then-self-eq0 c = (
  λ glyph. prints_text c.args.self glyph c.if-self-eq0.true,
  λ prints. (printing_line c.args.self prints).0,
)

pub returns-else-self-eq0 : goal.returns-else-self-eq0
returns-else-self-eq0 c = (
  λ none. absurd (c.if-self-eq0.false (eqb-true c.args.self.leading 0 none)),
  λ prints. (printing_line c.args.self prints).1,
)
