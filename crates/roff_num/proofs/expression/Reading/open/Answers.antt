use Rattle.std.proofs.Common.{◌≡◌, ◌+◌, ap, sym, ◌∙◌, refl, Some, Ok, Err, true, false, w32, to_z, of_z, drop, arith, rules, FitsSigned}
use Rattle.std.proofs.lemmas.Int.{to_z-of_z}
use Rattle.roff_num.specs.declared.expression.Opening.TheVariants.{Bar, Parenthesis}
use Rattle.roff_num.specs.Expressions.{sign_at}
use Rattle.roff_num.specs.Numerals.{numeral_at}
use Rattle.roff_num.specs.Operators.{begins_with}
use Rattle.roff_num.proofs.Comings.{OpensWithin-bar, OpensWithin-parenthesis, outcome_opened-no_place, outcome_opened-numeral, outcome_stepped-entered}
use Rattle.roff_num.proofs.expression.Reading.open.Goals as goal

pub returns-then-begins_with-clause-goes_on : goal.returns-then-begins_with-clause-goes_on
returns-then-begins_with-clause-goes_on c =
    let sign = c.read_sign-negative.result in
    let at = c.args.self.now.at + c.read_sign-negative.result.1 in
    let signs = c.read_sign-negative.ensures.value ∙ ap sign_at c.text_from.ensures.value in
    let opens : begins_with 40 (drop at c.args.text.now) ≡ true = ap (begins_with 40) (sym c.text_from-rest.ensures.value) ∙ (sym c.begins_with.ensures.value ∙ c.if-begins_with.true) in
    outcome_stepped-entered c.args.text.now c.args.scale c.args.place c.args.self.now c.enter.new.self at sign Parenthesis c.enter.result signs refl (omega arith)
    (OpensWithin-parenthesis c.args.text.now c.args.scale c.args.place c.args.self.now at sign.0 opens)
    c.enter.ensures.answer c.enter.ensures.entered

pub returns-in-Some-clause-goes_on : goal.returns-in-Some-clause-goes_on
returns-in-Some-clause-goes_on c =
    let sign = c.read_sign-negative.result in
    let at = c.args.self.now.at + c.read_sign-negative.result.1 in
    let signs = c.read_sign-negative.ensures.value ∙ ap sign_at c.text_from.ensures.value in
    let other : begins_with 40 (drop at c.args.text.now) ≡ false = ap (begins_with 40) (sym c.text_from-rest.ensures.value) ∙ (sym c.begins_with.ensures.value ∙ c.if-begins_with.false) in
    let bar : begins_with 124 (drop at c.args.text.now) ≡ true = ap (begins_with 124) (sym c.text_from-rest.ensures.value) ∙ (sym c.begins_with-2.ensures.value ∙ c.if-begins_with-2.true) in
    let fits : FitsSigned w32 c.in-Some.place = search rules in
    let from : c.args.place ≡ Some (to_z w32 (of_z w32 c.in-Some.place)) = c.in-Some.is ∙ ap Some (sym (to_z-of_z w32 c.in-Some.place fits)) in
    outcome_stepped-entered c.args.text.now c.args.scale c.args.place c.args.self.now c.enter-in-Some.new.self at sign (Bar (to_z w32 (of_z w32 c.in-Some.place))) c.enter-in-Some.result signs refl (omega arith)
    (OpensWithin-bar c.args.text.now c.args.scale c.args.place (to_z w32 (of_z w32 c.in-Some.place)) c.args.self.now at sign.0 from other bar)
    c.enter-in-Some.ensures.answer c.enter-in-Some.ensures.entered

pub returns-in-None-clause-goes_on : goal.returns-in-None-clause-goes_on
returns-in-None-clause-goes_on c =
    let sign = c.read_sign-negative.result in
    let at = c.args.self.now.at + c.read_sign-negative.result.1 in
    let signs = c.read_sign-negative.ensures.value ∙ ap sign_at c.text_from.ensures.value in
    let other : begins_with 40 (drop at c.args.text.now) ≡ false = ap (begins_with 40) (sym c.text_from-rest.ensures.value) ∙ (sym c.begins_with.ensures.value ∙ c.if-begins_with.false) in
    let bar : begins_with 124 (drop at c.args.text.now) ≡ true = ap (begins_with 124) (sym c.text_from-rest.ensures.value) ∙ (sym c.begins_with-2.ensures.value ∙ c.if-begins_with-2.true) in
    rw c.in-None.is (outcome_opened-no_place c.args.text.now c.args.scale c.args.self.now at sign signs refl (omega arith) other bar)

pub returns-in-Ok-clause-goes_on : goal.returns-in-Ok-clause-goes_on
returns-in-Ok-clause-goes_on c =
    let sign = c.read_sign-negative.result in
    let at = c.args.self.now.at + c.read_sign-negative.result.1 in
    let signs = c.read_sign-negative.ensures.value ∙ ap sign_at c.text_from.ensures.value in
    let other : begins_with 40 (drop at c.args.text.now) ≡ false = ap (begins_with 40) (sym c.text_from-rest.ensures.value) ∙ (sym c.begins_with.ensures.value ∙ c.if-begins_with.false) in
    let bar : begins_with 124 (drop at c.args.text.now) ≡ false = ap (begins_with 124) (sym c.text_from-rest.ensures.value) ∙ (sym c.begins_with-2.ensures.value ∙ c.if-begins_with-2.false) in
    let read : numeral_at c.args.scale sign.0 (drop at c.args.text.now) ≡ Ok (c.in-Ok.value, c.in-Ok.taken) =
    ap (numeral_at c.args.scale sign.0) (sym c.text_from-rest.ensures.value) ∙ (sym c.read_numeral.ensures.value ∙ c.in-Ok.is) in
    let fits : FitsSigned w32 c.in-Ok.value = search rules in
    let same = outcome_opened-numeral c.args.text.now c.args.scale c.args.place c.args.self.now at sign signs refl (omega arith) other bar in
    rw (to_z-of_z w32 c.in-Ok.value fits) (rw read at same)

pub returns-in-Err-clause-goes_on : goal.returns-in-Err-clause-goes_on
returns-in-Err-clause-goes_on c =
    let sign = c.read_sign-negative.result in
    let at = c.args.self.now.at + c.read_sign-negative.result.1 in
    let signs = c.read_sign-negative.ensures.value ∙ ap sign_at c.text_from.ensures.value in
    let other : begins_with 40 (drop at c.args.text.now) ≡ false = ap (begins_with 40) (sym c.text_from-rest.ensures.value) ∙ (sym c.begins_with.ensures.value ∙ c.if-begins_with.false) in
    let bar : begins_with 124 (drop at c.args.text.now) ≡ false = ap (begins_with 124) (sym c.text_from-rest.ensures.value) ∙ (sym c.begins_with-2.ensures.value ∙ c.if-begins_with-2.false) in
    let read : numeral_at c.args.scale sign.0 (drop at c.args.text.now) ≡ Err c.in-Err.fault =
    ap (numeral_at c.args.scale sign.0) (sym c.text_from-rest.ensures.value) ∙ (sym c.read_numeral.ensures.value ∙ c.in-Err.is) in
    let same = outcome_opened-numeral c.args.text.now c.args.scale c.args.place c.args.self.now at sign signs refl (omega arith) other bar in
    rw read at same
