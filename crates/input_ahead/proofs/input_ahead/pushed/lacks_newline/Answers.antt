use Rattle.std.proofs.Common.{sym, ap, ◌∙◌}
use Rattle.input_ahead.proofs.LastBytes.{is_no_newline, lacks_newline-last}
use Rattle.input_ahead.proofs.input_ahead.pushed.lacks_newline.Goals as goal

pub returns-in-Some : goal.returns-in-Some
returns-in-Some c = λ body is. ap is_no_newline (sym c.in-Some.is ∙ is) ∙ lacks_newline-last body

pub returns-in-None : goal.returns-in-None
returns-in-None c = λ body is. ap is_no_newline (sym c.in-None.is ∙ is) ∙ lacks_newline-last body
