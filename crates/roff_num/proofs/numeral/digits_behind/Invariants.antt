use Rattle.std.proofs.Common.{◌≡◌, ◌≤◌, ◌-◌, ◌^◌, min, drop}
use Rattle.std.specs.Str.Parse.{digits_value_after}
use Rattle.roff_num.proofs.numeral.digits_behind.Given as goal

abbrev pub invariant-loop-digit : goal.invariant-loop-digit
invariant-loop-digit l = (min (digits_value_after 10 l.number (drop l.digit-index l.digits)) (2 ^ 64 - 1) ≡ min (digits_value_after 10 l.before l.digits) (2 ^ 64 - 1)) × (l.number ≤ 2 ^ 64 - 1)
