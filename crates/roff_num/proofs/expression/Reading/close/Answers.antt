use Rattle.std.proofs.Common.{◌≡◌, ◌-◌, suc, length, reverse, ap, sym, ◌∙◌, Ok, w32, w64, to_z, of_z, arith, rules, FitsSigned, ◌-ℤ◌}
use Rattle.std.proofs.lemmas.Int.{ints, to_z-of_z}
use Rattle.roff_num.specs.declared.expression.Next.TheVariants.{Operand}
use Rattle.roff_num.specs.Reading.Frames.{combined}
use Rattle.roff_num.specs.Ranges.{in_range, signed}
use Rattle.roff_num.specs.Steps.{followed}
use Rattle.roff_num.proofs.Comings.{come_to-bar, come_to-innermost, outcome_stepped-left}
use Rattle.roff_num.proofs.expression.Reading.close.Goals as goal

pub close_parenthesis-requires-clause-room : goal.close_parenthesis-requires-clause-room
close_parenthesis-requires-clause-room c = omega (arith, c.in-Some.ensures.len)

pub returns-in-Bar-clause-goes_on : goal.returns-in-Bar-clause-goes_on
returns-in-Bar-clause-goes_on c = λ scale place.
    let before : combined c.args.self.now.pending c.args.value ≡ Ok c.in-Ok.value =
    ap (combined c.args.self.now.pending) (sym (to_z-of_z w32 c.args.value c.ranges.value)) ∙ (sym c.combined.ensures ∙ c.in-Ok.is) in
    let fits : FitsSigned w32 c.in-Ok.value = search rules in
    let place_fits : FitsSigned w32 c.in-Bar.place = search rules in
    let value_is : c.from.result ≡ c.in-Ok.value = c.from.ensures ∙ to_z-of_z w32 c.in-Ok.value fits in
    let place_is : c.from-in-Bar.result ≡ c.in-Bar.place = c.from-in-Bar.ensures ∙ to_z-of_z w32 c.in-Bar.place place_fits in
    let same : to_z w64 (of_z w64 (to_z w64 (of_z w64 c.from.result) -ℤ to_z w64 (of_z w64 c.from-in-Bar.result))) ≡ c.in-Ok.value -ℤ c.in-Bar.place = omega (arith, ints) in
    let answer = c.leave.ensures.answer ∙ ap (λ z. followed (in_range (signed c.in-Some.frame.negative z)) (λ v. Ok (Operand v))) same in
    let inner : suc (32 - length c.pop.new.self.items) ≡ 33 - length c.pop.new.self.items = omega (arith, c.in-Some.ensures.len) in
    let levels : 32 - length c.pop.new.self.items ≡ 33 - length c.args.self.now.frames.items = omega (arith, c.in-Some.ensures.len) in
    outcome_stepped-left c.args.text.now scale place c.in-Some.frame c.args.self.now.at (suc (32 - length c.pop.new.self.items))
    (record { at = c.args.self.now.at; pending = c.args.self.now.pending; frames = c.pop.new.self }) c.leave.new.self c.leave.result
    (in_range (signed c.in-Some.frame.negative (c.in-Ok.value -ℤ c.in-Bar.place))) answer c.leave.ensures.left inner
    ∙ (come_to-bar c.args.text.now scale place (32 - length c.pop.new.self.items) c.in-Some.frame (reverse c.pop.new.self.items) c.in-Ok.value c.in-Bar.place c.args.self.now.at c.in-Bar.is
    ∙ come_to-innermost c.args.text.now scale place c.args.self.now.frames.items c.pop.new.self.items c.in-Some.frame (32 - length c.pop.new.self.items)
    c.args.self.now.pending c.args.value c.in-Ok.value c.args.self.now.at before c.in-Some.ensures.items levels)

pub returns-in-Parenthesis-clause-goes_on : goal.returns-in-Parenthesis-clause-goes_on
returns-in-Parenthesis-clause-goes_on c = λ scale place.
    let before : combined c.args.self.now.pending c.args.value ≡ Ok c.in-Ok.value =
    ap (combined c.args.self.now.pending) (sym (to_z-of_z w32 c.args.value c.ranges.value)) ∙ (sym c.combined.ensures ∙ c.in-Ok.is) in
    let fits : FitsSigned w32 c.in-Ok.value = search rules in
    let levels : 32 - length c.pop.new.self.items ≡ 33 - length c.args.self.now.frames.items = omega (arith, c.in-Some.ensures.len) in
    (rw (to_z-of_z w32 c.in-Ok.value fits) at (c.close_parenthesis.ensures.goes_on scale place))
    ∙ come_to-innermost c.args.text.now scale place c.args.self.now.frames.items c.pop.new.self.items c.in-Some.frame (32 - length c.pop.new.self.items)
    c.args.self.now.pending c.args.value c.in-Ok.value c.args.self.now.at before c.in-Some.ensures.items levels

pub leave-requires : goal.leave-requires
leave-requires c = omega (arith, ints)
