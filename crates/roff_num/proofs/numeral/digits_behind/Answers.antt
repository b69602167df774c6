use Rattle.std.proofs.Common.{◌≡◌, ◌-◌, ◌^◌, min, drop, arith, []}
use Rattle.std.proofs.lemmas.Str.Parse.{digit_at}
use Rattle.std.specs.Str.Parse.{digits_value_after}
use Rattle.std.proofs.lemmas.List.{drop_all}
use Rattle.roff_num.proofs.Digits.{digits_value_after-step}
use Rattle.roff_num.proofs.numeral.digits_behind.Goals as goal

pub overflow_sub-digit : goal.overflow_sub-digit
overflow_sub-digit c = omega (arith, digit_at c.args.digits.now c.loop-digit.digit-index c.requires c.loop-digit-test.true)

pub loop-digit-preserved : goal.loop-digit-preserved
loop-digit-preserved c = (
  digits_value_after-step c.args.digits.now c.loop-digit.digit-index (2 ^ 64 - 1) c.loop-digit.number c.saturating_add-number.result _ c.requires c.loop-digit-test.true (omega arith) c.loop-digit.invariant.0,
  omega arith,
)

pub returns : goal.returns
returns c =
    let done : drop c.loop-digit.digit-index c.args.digits.now ≡ [] = drop_all c.loop-digit.digit-index c.args.digits.now (omega arith) in
    let counted : min c.loop-digit.number (2 ^ 64 - 1) ≡ min (digits_value_after 10 c.args.before c.args.digits.now) (2 ^ 64 - 1) = rw done at c.loop-digit.invariant.0 in
    omega arith
