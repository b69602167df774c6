use Rattle.run_turns.proofs.ComingFurther.{comes_none}
use Rattle.std.proofs.Common.{◌∙◌}
use Rattle.run_shortcuts.proofs.beginnings.begin_text_at_once.Goals as goal

pub returns-in_default-clause-further : goal.returns-in_default-clause-further
returns-in_default-clause-further g c = comes_none _ _ _ _

pub returns-in_default-clause-some : goal.returns-in_default-clause-some
returns-in_default-clause-some g c = λ starts stands none not_one. absurd (cc)

pub returns-in_default-clause-told : goal.returns-in_default-clause-told
returns-in_default-clause-told g c = λ starts stands none on. absurd (c.in_default.not-LineStart (c.reading.ensures ∙ starts))
