use Rattle.std.proofs.Common.{◌≡◌, ◌+◌, ap, sym, ◌∙◌, refl, Ok, false, w32, drop, arith, rules, FitsSigned}
use Rattle.std.proofs.lemmas.Int.{to_z-of_z}
use Rattle.roff_num.specs.Expressions.{sign_at}
use Rattle.roff_num.specs.Numerals.{numeral_at}
use Rattle.roff_num.specs.Operators.{begins_with}
use Rattle.roff_num.specs.Reading.Frames.{unheld}
use Rattle.roff_num.proofs.Comings.{outcome_opened-numeral}
use Rattle.roff_num.proofs.evaluation.read_plain_operand.Goals as goal

pub returns-in-Ok-clause-value : goal.returns-in-Ok-clause-value
returns-in-Ok-clause-value c = λ place pending.
    let sign = c.read_sign-negative.result in
    let begin = c.args.at + sign.1 in
    let signs = c.read_sign-negative.ensures.value ∙ ap sign_at c.text_from.ensures.value in
    let other : begins_with 40 (drop begin c.args.text.now) ≡ false = ap (begins_with 40) (sym c.text_from-rest.ensures.value) ∙ (sym c.begins_with.ensures.value ∙ c.if-begins_with.false) in
    let bar : begins_with 124 (drop begin c.args.text.now) ≡ false = ap (begins_with 124) (sym c.text_from-rest.ensures.value) ∙ (sym c.begins_with-else-begins_with.ensures.value ∙ c.if-begins_with-2.false) in
    let read : numeral_at c.args.scale sign.0 (drop begin c.args.text.now) ≡ Ok (c.in-Ok.value, c.in-Ok.taken) =
    ap (numeral_at c.args.scale sign.0) (sym c.text_from-rest.ensures.value) ∙ (sym c.read_numeral.ensures.value ∙ c.in-Ok.is) in
    let fits : FitsSigned w32 c.in-Ok.value = search rules in
    let same = outcome_opened-numeral c.args.text.now c.args.scale place (unheld c.args.at pending) begin sign signs refl (omega arith) other bar in
    rw (to_z-of_z w32 c.in-Ok.value fits) (rw read at same)
