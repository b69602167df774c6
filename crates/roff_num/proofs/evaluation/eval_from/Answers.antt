use Rattle.std.proofs.Common.{Ok, ap, sym, ◌∙◌, w32, rules, FitsSigned}
use Rattle.std.proofs.lemmas.Int.{to_z-of_z}
use Rattle.roff_num.specs.Expressions.{as_number}
use Rattle.roff_num.specs.Reading.Frames.{outcome_opened, outcome_stepped}
use Rattle.roff_num.proofs.evaluation.eval_from.Goals as goal

pub loop-operand-init : goal.loop-operand-init
loop-operand-init c = ap (outcome_opened c.args.text.now c.args.scale c.args.place) c.new-reading.ensures

pub loop-operand-preserved-in-Ok-Opened : goal.loop-operand-preserved-in-Ok-Opened
loop-operand-preserved-in-Ok-Opened c =
    sym (ap (outcome_stepped c.args.text.now c.args.scale c.args.place c.step.new.self) (c.in-Ok-Opened.is ∙ ap Ok c.in-Ok-Opened.field-0-is)) ∙ (c.step.ensures.goes_on ∙ c.loop-operand.invariant)

pub loop-operand-preserved : goal.loop-operand-preserved
loop-operand-preserved c =
    let fits : FitsSigned w32 c.in-Ok-Operand.value = search rules in
    rw (to_z-of_z w32 c.in-Ok-Operand.value fits)
    (sym (ap (outcome_stepped c.args.text.now c.args.scale c.args.place c.step.new.self) (c.in-Ok-Operand.is ∙ ap Ok c.in-Ok-Operand.field-0-is)) ∙ (c.step.ensures.goes_on ∙ c.loop-operand.invariant))

pub returns-in-Ok-Ended : goal.returns-in-Ok-Ended
returns-in-Ok-Ended c =
    let fits : FitsSigned w32 c.in-Ok-Ended.value = search rules in
    let came = sym (ap (outcome_stepped c.args.text.now c.args.scale c.args.place c.step.new.self) (c.in-Ok-Ended.is ∙ ap Ok c.in-Ok-Ended.field-0-is)) ∙ (c.step.ensures.goes_on ∙ c.loop-operand.invariant) in
    rw (to_z-of_z w32 c.in-Ok-Ended.value fits, c.place.ensures) (ap as_number came)

pub returns-in-Err : goal.returns-in-Err
returns-in-Err c =
    ap as_number (sym (ap (outcome_stepped c.args.text.now c.args.scale c.args.place c.step.new.self) c.in-Err.is) ∙ (c.step.ensures.goes_on ∙ c.loop-operand.invariant))
