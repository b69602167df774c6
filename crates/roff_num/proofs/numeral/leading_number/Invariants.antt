use Rattle.std.proofs.Common.{◌≡◌, ◌+◌, ◌^◌, ◌≤◌, length, min, drop}
use Rattle.std.specs.Str.Parse.{digits_value, digits_value_after}
use Rattle.roff_num.specs.Numerals.{digits_at}
use Rattle.roff_num.proofs.numeral.leading_number.Given as goal

abbrev pub invariant-loop-digit : goal.invariant-loop-digit
invariant-loop-digit l =
    (min (digits_value_after 10 l.number (digits_at (drop l.digit-index l.text))) (2 ^ 32) ≡ min (digits_value 10 (digits_at l.text)) (2 ^ 32))
    × (l.number ≤ 2 ^ 32)
    × (l.digit-index + length (digits_at (drop l.digit-index l.text)) ≡ length (digits_at l.text))
    × (l.count ≡ l.digit-index)
