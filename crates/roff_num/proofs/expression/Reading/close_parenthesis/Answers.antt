use Rattle.std.proofs.Common.{◌≡◌, ◌+◌, ◌-◌, suc, length, ap, sym, ◌∙◌, refl, Some, None, Ok, true, false, w32, w64, to_z, of_z, drop, arith}
use Rattle.std.proofs.lemmas.Int.{ints, to_z-of_z}
use Rattle.roff_num.specs.declared.expression.Next.TheVariants.{Operand}
use Rattle.roff_num.specs.Operators.{begins_with, operator_at}
use Rattle.roff_num.specs.Ranges.{in_range, signed}
use Rattle.roff_num.specs.Steps.{followed}
use Rattle.roff_num.proofs.Comings.{come_to-closed, come_to-not_closed, outcome_opened-operator, outcome_stepped-left}
use Rattle.roff_num.proofs.expression.Reading.close_parenthesis.Goals as goal

pub returns-in-Some-clause-goes_on : goal.returns-in-Some-clause-goes_on
returns-in-Some-clause-goes_on c = λ scale place.
    let found : operator_at (drop c.args.self.now.at c.args.text.now) ≡ Some (c.in-Some.operator, c.in-Some.further) =
    ap operator_at (sym c.text_from-rest.ensures.value) ∙ (sym c.read.ensures.value ∙ c.in-Some.is) in
    rw (to_z-of_z w32 c.args.value c.ranges.value)
    (outcome_opened-operator c.args.text.now scale place (32 - length c.args.self.now.frames.items) c.args.frame c.args.self.now.frames.items c.push.new.self.items c.args.value c.args.self.now.at
    _ c.in-Some.operator c.in-Some.further c.requires.parenthesis found refl c.push.ensures.items (omega (arith, c.push.ensures.len)))

pub returns-in-None-clause-goes_on : goal.returns-in-None-clause-goes_on
returns-in-None-clause-goes_on c = λ scale place.
    let found : operator_at (drop c.args.self.now.at c.args.text.now) ≡ None =
    ap operator_at (sym c.text_from-rest.ensures.value) ∙ (sym c.read.ensures.value ∙ c.in-None.is) in
    let closed : begins_with 41 (drop c.args.self.now.at c.args.text.now) ≡ true =
    ap (begins_with 41) (sym c.text_from-rest.ensures.value) ∙ (sym c.begins_with.ensures.value ∙ c.if-begins_with.true) in
    let same : to_z w64 (of_z w64 c.from.result) ≡ c.args.value = omega (arith, ints) in
    let answer = c.leave.ensures.answer ∙ ap (λ z. followed (in_range (signed c.args.frame.negative z)) (λ v. Ok (Operand v))) same in
    outcome_stepped-left c.args.text.now scale place c.args.frame (c.args.self.now.at + 1) (suc (32 - length c.args.self.now.frames.items)) c.args.self.now c.leave.new.self c.leave.result
    (in_range (signed c.args.frame.negative c.args.value)) answer c.leave.ensures.left (omega (arith, c.requires.room))
    ∙ come_to-closed c.args.text.now scale place (32 - length c.args.self.now.frames.items) c.args.frame _ c.args.value c.args.self.now.at c.requires.parenthesis found closed

pub returns-in-None-2-clause-goes_on : goal.returns-in-None-2-clause-goes_on
returns-in-None-2-clause-goes_on c = λ scale place.
    let found : operator_at (drop c.args.self.now.at c.args.text.now) ≡ None =
    ap operator_at (sym c.text_from-rest.ensures.value) ∙ (sym c.read.ensures.value ∙ c.in-None.is) in
    let closed : begins_with 41 (drop c.args.self.now.at c.args.text.now) ≡ false =
    ap (begins_with 41) (sym c.text_from-rest.ensures.value) ∙ (sym c.begins_with.ensures.value ∙ c.if-begins_with.false) in
    come_to-not_closed c.args.text.now scale place (32 - length c.args.self.now.frames.items) c.args.frame _ c.args.value c.args.self.now.at c.requires.parenthesis found closed
