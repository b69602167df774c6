use Rattle.std.proofs.Common.{arith, ℕ, ◌++◌, ◌^◌, ◌≤◌, ◌<◌, zero, min, take, length, ap, ◌∙◌, pos}
use Rattle.std.specs.Str.Parse.{digits_value}
use Rattle.std.proofs.Math.Nat.{one-le-pow, pow-le-pow_right}
use Rattle.roff_num.specs.Ranges.{in_range, signed}
use Rattle.roff_num.proofs.Sizes.{in_range-capped}
use Rattle.roff_num.proofs.numeral.value_of.Goals as goal

pub returns : goal.returns
returns c =
    let decimals : ℕ = min 9 (length c.args.decimals.now) in
    let some : 1 ≤ 10 ^ decimals = one-le-pow decimals 10 (omega arith) in
    let few : 10 ^ decimals ≤ 10 ^ 9 = pow-le-pow_right {n = 10} (omega arith) {i = decimals} {j = 9} (omega arith) in
    let bound : 10 ^ decimals ≤ 1000000000 = omega arith in
    let positive : zero < 10 ^ decimals = omega arith in
    let capped = in_range-capped c.args.negative (digits_value 10 (c.args.whole.now ++ take 9 c.args.decimals.now)) c.args.unit.over c.args.unit.under (10 ^ decimals) c.requires.some c.requires.one_or_more positive bound in
    c.with_sign.ensures ∙ (ap (λ n. in_range (signed c.args.negative (pos n))) c.capped_size.ensures ∙ capped)
