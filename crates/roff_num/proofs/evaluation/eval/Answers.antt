use Rattle.std.proofs.Common.{◌≡◌, Some, None, Ok, Err, drop, ap, sym, ◌∙◌, arith, rules, w32, FitsSigned}
use Rattle.std.proofs.lemmas.Int.{to_z-of_z}
use Rattle.roff_num.specs.Expressions.{as_number, value_at}
use Rattle.roff_num.specs.Operators.{operator_at}
use Rattle.roff_num.specs.Reading.Frames.{combined}
use Rattle.roff_num.proofs.Comings.{outcome_of-end, outcome_of-fault, outcome_opened-further, outcome_opened-start}
use Rattle.roff_num.proofs.evaluation.eval.Goals as goal

pub loop-operand-init : goal.loop-operand-init
loop-operand-init c = outcome_opened-start c.args.text.now c.args.scale c.args.place c.args.at

pub returns-in-Err : goal.returns-in-Err
unfolding value_at
returns-in-Err c =
    let fits : FitsSigned w32 c.in-Some.operand = search rules in
    let before : combined c.loop-operand.pending c.in-Some.operand ≡ Err c.in-Err.fault =
    ap (combined c.loop-operand.pending) (sym (to_z-of_z w32 c.in-Some.operand fits)) ∙ (sym c.combined.ensures ∙ c.in-Err.is) in
    ap as_number (outcome_of-fault c.args.text.now c.args.scale c.args.place c.loop-operand.begin c.loop-operand.pending c.in-Some.operand c.in-Some.behind c.in-Err.fault _
    (c.in-Some.ensures.value c.args.place c.loop-operand.pending ∙ c.loop-operand.invariant) before)

pub loop-operand-smaller : goal.loop-operand-smaller
loop-operand-smaller c = omega (arith, c.in-Some.ensures.further, c.text_from.ensures.length, c.in-Some-read.ensures.within)

pub loop-operand-preserved : goal.loop-operand-preserved
loop-operand-preserved c =
    let operand_fits : FitsSigned w32 c.in-Some.operand = search rules in
    let fits : FitsSigned w32 c.in-Ok.value = search rules in
    let before : combined c.loop-operand.pending c.in-Some.operand ≡ Ok c.in-Ok.value =
    ap (combined c.loop-operand.pending) (sym (to_z-of_z w32 c.in-Some.operand operand_fits)) ∙ (sym c.combined.ensures ∙ c.in-Ok.is) in
    let found : operator_at (drop c.in-Some.behind c.args.text.now) ≡ Some (c.in-Some-read.operator, c.in-Some-read.further) =
    ap operator_at (sym c.text_from.ensures.value) ∙ (sym c.read.ensures.value ∙ c.in-Some-read.is) in
    rw (to_z-of_z w32 c.in-Ok.value fits)
    (outcome_opened-further c.args.text.now c.args.scale c.args.place c.loop-operand.begin c.loop-operand.pending c.in-Some.operand c.in-Ok.value c.in-Some.behind
    _ c.in-Some-read.operator c.in-Some-read.further _ (c.in-Some.ensures.value c.args.place c.loop-operand.pending ∙ c.loop-operand.invariant) before found (omega arith))

pub returns-in-None : goal.returns-in-None
unfolding value_at
returns-in-None c =
    let operand_fits : FitsSigned w32 c.in-Some.operand = search rules in
    let fits : FitsSigned w32 c.in-Ok.value = search rules in
    let before : combined c.loop-operand.pending c.in-Some.operand ≡ Ok c.in-Ok.value =
    ap (combined c.loop-operand.pending) (sym (to_z-of_z w32 c.in-Some.operand operand_fits)) ∙ (sym c.combined.ensures ∙ c.in-Ok.is) in
    let found : operator_at (drop c.in-Some.behind c.args.text.now) ≡ None =
    ap operator_at (sym c.text_from.ensures.value) ∙ (sym c.read.ensures.value ∙ c.in-None.is) in
    rw (to_z-of_z w32 c.in-Ok.value fits)
    (ap as_number (outcome_of-end c.args.text.now c.args.scale c.args.place c.loop-operand.begin c.loop-operand.pending c.in-Some.operand c.in-Ok.value c.in-Some.behind _
    (c.in-Some.ensures.value c.args.place c.loop-operand.pending ∙ c.loop-operand.invariant) before found))

pub returns : goal.returns
unfolding value_at
returns c = c.eval_from.ensures ∙ ap as_number c.loop-operand.invariant
