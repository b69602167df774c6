use Rattle.std.proofs.Common.{ap, sym, ◌∙◌, w32, rules, FitsSigned}
use Rattle.std.proofs.lemmas.Int.{to_z-of_z}
use Rattle.roff_num.specs.Reading.Frames.{outcome_now}
use Rattle.roff_num.proofs.expression.Reading.step.Goals as goal

pub returns-in-None-clause-goes_on : goal.returns-in-None-clause-goes_on
returns-in-None-clause-goes_on c =
    c.open.ensures.goes_on ∙ sym (ap (outcome_now c.args.text.now c.args.scale c.args.place c.args.self.now) c.in-None.is)

pub returns-in-Some-clause-goes_on : goal.returns-in-Some-clause-goes_on
returns-in-Some-clause-goes_on c =
    let fits : FitsSigned w32 c.in-Some.value = search rules in
    (rw (to_z-of_z w32 c.in-Some.value fits) at (c.close.ensures.goes_on c.args.scale c.args.place))
    ∙ sym (ap (outcome_now c.args.text.now c.args.scale c.args.place c.args.self.now) c.in-Some.is)
