-- The size of a numeral whose digits are counted up to a cap.
use Rattle.std.proofs.Common.{◌≡◌, ℕ, zero, suc, ◌*◌, ◌/◌, ◌<◌, ◌≤◌, min, Bool, true, false, arith, ap, inl, inr, Err, ◌∙◌, sym, pos}
use Rattle.std.proofs.Math.Nat.{le-div_iff_mul-le, mul-le-mul, mul-pos, min-eq_left}
use Rattle.std.proofs.lemmas.Bool.{cases_lt}
use Rattle.std.proofs.lemmas.Bool.Decides.{nat_tests}
use Rattle.roff_num.specs.declared.num.NumFault.TheVariants.{Range}
use Rattle.roff_num.specs.Ranges.{in_range, signed}

-- a size above 2147483648 is out of range behind either sign
out_of_range : (is_negative : Bool) (n : ℕ) → 2147483649 ≤ n → in_range (signed is_negative (pos n)) ≡ Err Range
out_of_range false n large = grind (arith, nat_tests)
out_of_range true zero large = absurd (omega arith)
out_of_range true (suc n) large = grind (arith, nat_tests)

-- a number of 2^64 - 1 and more is a size out of range, in any unit of one basic unit or more, with up to nine decimals
large_size : (n over under part : ℕ) → 0 < under → under ≤ over → 0 < part → part ≤ 1000000000
    → 18446744073709551615 ≤ n → 2147483649 ≤ n * over / (part * under)
large_size n over under part some more parts few large =
    let divisor : 0 < part * under = mul-pos parts some in
    let products : part * under ≤ 1000000000 * over = mul-le-mul few more in
    let whole : 18446744073709551615 * over ≤ n * over = mul-le-mul large (omega arith) in
    (le-div_iff_mul-le divisor).1 (omega arith)

-- so a cap on the number changes no value
pub in_range-capped : (is_negative : Bool) (n over under part : ℕ) → 0 < under → under ≤ over → 0 < part → part ≤ 1000000000
    → in_range (signed is_negative (pos (min n 18446744073709551615 * over / (part * under)))) ≡ in_range (signed is_negative (pos (n * over / (part * under))))
in_range-capped is_negative n over under part some more parts few = elim (cases_lt n 18446744073709551615) [
  | inl small ↦ ap (λ k. in_range (signed is_negative (pos (k * over / (part * under))))) (min-eq_left (omega arith))
  | inr large ↦
      out_of_range is_negative (min n 18446744073709551615 * over / (part * under)) (large_size (min n 18446744073709551615) over under part some more parts few (omega arith))
      ∙ sym (out_of_range is_negative (n * over / (part * under)) (large_size n over under part some more parts few large))
]

-- a number above 2147483648 is a size out of range, in any unit of one basic unit or more
pub in_range-large : (is_negative : Bool) (n over under : ℕ) → 0 < under → under ≤ over → 2147483648 < n
    → Err Range ≡ in_range (signed is_negative (pos (n * over / under)))
in_range-large is_negative n over under some more large =
    let whole : 2147483649 * under ≤ n * over = mul-le-mul (let above : 2147483649 ≤ n = omega arith in above) more in
    sym (out_of_range is_negative (n * over / under) ((le-div_iff_mul-le some).1 whole))

-- so a cap of 2^32 on a whole number changes no value
pub in_range-capped_whole : (is_negative : Bool) (n over under : ℕ) → 0 < under → under ≤ over
    → in_range (signed is_negative (pos (min n 4294967296 * over / under))) ≡ in_range (signed is_negative (pos (n * over / (1 * under))))
in_range-capped_whole is_negative n over under some more =
    let one : in_range (signed is_negative (pos (n * over / under))) ≡ in_range (signed is_negative (pos (n * over / (1 * under)))) =
    ap (λ k. in_range (signed is_negative (pos (n * over / k)))) (let same : under ≡ 1 * under = omega arith in same) in
    elim (cases_lt n 4294967296) [
      | inl small ↦ ap (λ k. in_range (signed is_negative (pos (k * over / under)))) (min-eq_left (omega arith)) ∙ one
      | inr large ↦
          sym (in_range-large is_negative (min n 4294967296) over under some more (omega arith))
          ∙ (in_range-large is_negative n over under some more (omega arith) ∙ one)
    ]
