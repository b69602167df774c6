use Rattle.std.proofs.lemmas.Int.{to_z-of_z}
use Rattle.std.proofs.Common.{◌≡◌, ◌<◌, false, arith, rules, w32, FitsSigned, sym, ◌∙◌}
use Rattle.roff_num.specs.Operators.{begins_with}
use Rattle.roff_num.proofs.Numerals.{numeral_at-whole}
use Rattle.roff_num.proofs.numeral.read_numeral.Goals as goal

pub returns-in-Ok-clause-value : goal.returns-in-Ok-clause-value
returns-in-Ok-clause-value c =
    let some : 0 < c.leading_number-number.result.1 = omega arith in
    let n = c.leading_number-number.ensures in
    let u = c.read_unit-letters.ensures in
    let other : begins_with 46 c.split_at.result.1.now ≡ false = sym c.begins_with.ensures.value ∙ c.if-begins_with.false in
    let whole = numeral_at-whole c.args.text.now c.args.scale c.args.negative _ _ _ _ _ n.number n.count c.split_at.ensures.back other u.value u.some u.one_or_more c.value_of_whole.ensures some in
    let fits : FitsSigned w32 c.in-Ok.value = search rules in
    rw (to_z-of_z w32 c.in-Ok.value fits) (rw c.in-Ok.is at whole)

pub returns-in-Err-clause-value : goal.returns-in-Err-clause-value
returns-in-Err-clause-value c =
    let some : 0 < c.leading_number-number.result.1 = omega arith in
    let n = c.leading_number-number.ensures in
    let u = c.read_unit-letters.ensures in
    let other : begins_with 46 c.split_at.result.1.now ≡ false = sym c.begins_with.ensures.value ∙ c.if-begins_with.false in
    let whole = numeral_at-whole c.args.text.now c.args.scale c.args.negative _ _ _ _ _ n.number n.count c.split_at.ensures.back other u.value u.some u.one_or_more c.value_of_whole.ensures some in
    rw c.in-Err.is at whole
