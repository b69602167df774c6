use Rattle.std.proofs.Common.{◌≡◌, ap, sym, ◌∙◌, refl, Some, None, w32, drop}
use Rattle.std.proofs.lemmas.Int.{to_z-of_z}
use Rattle.roff_num.specs.Operators.{operator_at}
use Rattle.roff_num.proofs.Comings.{come_to-end, come_to-operator}
use Rattle.roff_num.proofs.expression.Reading.end.Goals as goal

pub returns-in-Some-clause-goes_on : goal.returns-in-Some-clause-goes_on
returns-in-Some-clause-goes_on c = λ scale place.
    let found : operator_at (drop c.args.self.now.at c.args.text.now) ≡ Some (c.in-Some.operator, c.in-Some.further) =
    ap operator_at (sym c.text_from.ensures.value) ∙ (sym c.read.ensures.value ∙ c.in-Some.is) in
    rw (c.requires, to_z-of_z w32 c.args.value c.ranges.value)
    (come_to-operator c.args.text.now scale place 33 c.args.value c.args.self.now.at _ c.in-Some.operator c.in-Some.further found refl)

pub returns-in-None-clause-goes_on : goal.returns-in-None-clause-goes_on
returns-in-None-clause-goes_on c = λ scale place.
    let found : operator_at (drop c.args.self.now.at c.args.text.now) ≡ None =
    ap operator_at (sym c.text_from.ensures.value) ∙ (sym c.read.ensures.value ∙ c.in-None.is) in
    rw (to_z-of_z w32 c.args.value c.ranges.value) (come_to-end c.args.text.now scale place 33 c.args.value c.args.self.now.at found)
