use Rattle.std.proofs.lemmas.Grind.{elements}
use Rattle.std.proofs.lemmas.Int.{ints}
use Rattle.std.proofs.Common.{arith, ◌≡◌, ◌^◌, ◌<◌, ◌≤◌, zero, min, take, length, ◌++◌, ap, ◌∙◌, refl, length-take}
use Rattle.std.proofs.lemmas.List.{take_min}
use Rattle.std.specs.Str.Parse.{digits_value, digits_value_after}
use Rattle.std.proofs.Math.Nat.{one-le-pow, mul-pos}
use Rattle.roff_num.proofs.Digits.{digits_value-capped}
use Rattle.roff_num.proofs.numeral.capped_size.Goals as goal

pub nonzero_div-result : goal.nonzero_div-result
nonzero_div-result c =
    let some : 1 ≤ 10 ^ length (take c.min.result c.args.decimals.now) = one-le-pow (length (take c.min.result c.args.decimals.now)) 10 (omega arith) in
    let part : zero < c.from-3.result = omega (arith, c.pow-part.ensures, c.from-3.ensures) in
    let under : zero < c.from-4.result = omega (arith, c.from-4.ensures, c.requires.unit) in
    mul-pos part under

pub returns : goal.returns
returns c =
    let decimals = c.args.decimals.now in
    let kept : take c.min.result decimals ≡ take 9 decimals =
    ap (λ n. take n decimals) (omega (arith, c.min.ensures)) ∙ take_min 9 decimals in
    let count : length (take c.min.result decimals) ≡ min 9 (length decimals) = ap length kept ∙ length-take 9 decimals in
    let number = digits_value-capped c.args.whole.now (take 9 decimals) 18446744073709551615 in
    let digits : c.from.result ≡ min (digits_value 10 (c.args.whole.now ++ take 9 decimals)) 18446744073709551615 =
    c.from.ensures ∙ (c.digits_behind-number.ensures
    ∙ (ap (λ n. min (digits_value_after 10 n (take c.min.result decimals)) 18446744073709551615) c.digits_behind.ensures
    ∙ (ap (λ ds. min (digits_value_after 10 (min (digits_value 10 c.args.whole.now) 18446744073709551615) ds) 18446744073709551615) kept ∙ number))) in
    let part : c.from-3.result ≡ 10 ^ min 9 (length decimals) = c.from-3.ensures ∙ (c.pow-part.ensures ∙ ap (λ n. 10 ^ n) count) in
    rw (digits, c.from-2.ensures, part, c.from-4.ensures) refl

pub digits_behind-number-requires : goal.digits_behind-number-requires
digits_behind-number-requires c = grind (ints, arith, elements)
