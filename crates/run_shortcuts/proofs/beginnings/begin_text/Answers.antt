use Rattle.std.proofs.Common.{sym, ◌∙◌}
use Rattle.run_turns.proofs.ComingFurther.{comes_none}
use Rattle.run_shortcuts.proofs.beginnings.begin_text.Goals as goal

pub begin_line-requires-clause-none_goes_on : goal.begin_line-requires-clause-none_goes_on
begin_line-requires-clause-none_goes_on g c = λ l h stood. sym (c.interrupted_line.ensures l h stood.environments) ∙ c.in-None.is

pub returns-in-Some-clause-past : goal.returns-in-Some-clause-past
returns-in-Some-clause-past g c = λ out err. comes_none _ _ _ _

pub returns-in-None-clause-some : goal.returns-in-None-clause-some
returns-in-None-clause-some g c = λ stands none. c.begin_line.ensures.some stands

pub returns-in-None-clause-told : goal.returns-in-None-clause-told
returns-in-None-clause-told g c = λ stands none. c.begin_line.ensures.told stands

pub returns-in-Some-clause-some : goal.returns-in-Some-clause-some
returns-in-Some-clause-some g c = λ stands none untold.
    let wrong = sym c.in-Some.is ∙ c.interrupted_line.ensures none.limits none.history none.stands.environments ∙ none.none in absurd (cc)

pub returns-in-Some-clause-told : goal.returns-in-Some-clause-told
returns-in-Some-clause-told g c = λ stands none.
    let wrong = sym c.in-Some.is ∙ c.interrupted_line.ensures none.limits none.history none.stands.environments ∙ none.none in absurd (cc)
