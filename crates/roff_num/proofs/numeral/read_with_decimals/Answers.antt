use Rattle.std.proofs.lemmas.Int.{to_z-of_z}
use Rattle.std.proofs.Common.{arith, ◌+◌, ◌<◌, rules, length, w32, FitsSigned, take, drop, ap, ◌∙◌}
use Rattle.roff_num.proofs.Digits.{AllDigits-take, digits_at-take}
use Rattle.roff_num.proofs.Numerals.{numeral_at-parts}
use Rattle.roff_num.proofs.numeral.read_with_decimals.Goals as goal

pub value_of-requires-clause-whole : goal.value_of-requires-clause-whole
value_of-requires-clause-whole c = rw (c.split_at.ensures.front, c.digit_count.ensures) (AllDigits-take c.args.text.now)

pub returns-in-Ok-clause-value : goal.returns-in-Ok-clause-value
returns-in-Ok-clause-value c =
    let some : 0 < length c.split_at.result.0.now + length c.split_decimals-dot.result.1.now = omega arith in
    let whole = c.split_at.ensures.front ∙ (ap (λ n. take n c.args.text.now) c.digit_count.ensures ∙ digits_at-take c.args.text.now) in
    let behind = c.split_at.ensures.back ∙ ap (λ n. drop n c.args.text.now) c.digit_count.ensures in
    let d = c.split_decimals-dot.ensures in
    let parts = numeral_at-parts c.args.text.now c.args.scale c.args.negative _ _ _ _ _ _ _ whole behind d.dot d.decimals d.rest c.read_unit-letters.ensures.value c.value_of.ensures some in
    let fits : FitsSigned w32 c.in-Ok.value = search rules in
    rw (to_z-of_z w32 c.in-Ok.value fits) (rw c.in-Ok.is at parts)

pub returns-in-Err-clause-value : goal.returns-in-Err-clause-value
returns-in-Err-clause-value c =
    let some : 0 < length c.split_at.result.0.now + length c.split_decimals-dot.result.1.now = omega arith in
    let whole = c.split_at.ensures.front ∙ (ap (λ n. take n c.args.text.now) c.digit_count.ensures ∙ digits_at-take c.args.text.now) in
    let behind = c.split_at.ensures.back ∙ ap (λ n. drop n c.args.text.now) c.digit_count.ensures in
    let d = c.split_decimals-dot.ensures in
    let parts = numeral_at-parts c.args.text.now c.args.scale c.args.negative _ _ _ _ _ _ _ whole behind d.dot d.decimals d.rest c.read_unit-letters.ensures.value c.value_of.ensures some in
    rw c.in-Err.is at parts
