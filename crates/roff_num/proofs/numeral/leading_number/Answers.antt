use Rattle.std.proofs.Common.{◌≡◌, ◌+◌, ◌^◌, ◌∷◌, [], length, min, drop, get_or, refl, ap, sym, ◌∙◌, arith, rules}
use Rattle.std.proofs.lemmas.List.{drop_all}
use Rattle.std.specs.Str.Parse.{digits_value}
use Rattle.roff_num.specs.Numerals.{digits_at}
use Rattle.roff_num.proofs.Digits.{digits_at-digit, digits_at-none, digits_at-step}
use Rattle.roff_num.proofs.numeral.leading_number.Goals as goal

pub loop-digit-init : goal.loop-digit-init
loop-digit-init c = (refl, omega arith, omega arith, refl)

pub returns-then-not-is_ascii_digit-clause-number : goal.returns-then-not-is_ascii_digit-clause-number
returns-then-not-is_ascii_digit-clause-number c =
    let none : digits_at (drop c.loop-digit.digit-index c.args.text.now) ≡ [] =
    digits_at-none c.args.text.now c.loop-digit.digit-index c.loop-digit-test.true (sym c.is_ascii_digit.ensures.value ∙ c.if-not-is_ascii_digit.true) in
    let counted : min c.loop-digit.number (2 ^ 32) ≡ min (digits_value 10 (digits_at c.args.text.now)) (2 ^ 32) = rw none at c.loop-digit.invariant.0 in
    omega (arith, c.loop-digit.invariant.1)

pub returns-then-not-is_ascii_digit-clause-count : goal.returns-then-not-is_ascii_digit-clause-count
returns-then-not-is_ascii_digit-clause-count c =
    let none : digits_at (drop c.loop-digit.digit-index c.args.text.now) ≡ [] =
    digits_at-none c.args.text.now c.loop-digit.digit-index c.loop-digit-test.true (sym c.is_ascii_digit.ensures.value ∙ c.if-not-is_ascii_digit.true) in
    let counted : c.loop-digit.digit-index + 0 ≡ length (digits_at c.args.text.now) = rw none at c.loop-digit.invariant.2 in
    omega (arith, c.loop-digit.invariant.3)

pub overflow_add-count : goal.overflow_add-count
overflow_add-count c = search rules

pub loop-digit-preserved : goal.loop-digit-preserved
loop-digit-preserved c =
    let digit = sym c.is_ascii_digit.ensures.value ∙ c.if-not-is_ascii_digit.false in
    let rest = digits_at (drop (c.loop-digit.digit-index + 1) c.args.text.now) in
    let one_more : length (digits_at (drop c.loop-digit.digit-index c.args.text.now)) ≡ length (get_or c.args.text.now c.loop-digit.digit-index 0 ∷ rest) =
    ap length (digits_at-digit c.args.text.now c.loop-digit.digit-index c.loop-digit-test.true digit) in (
      digits_at-step c.args.text.now c.loop-digit.digit-index (2 ^ 32) c.loop-digit.number c.min-number.result _ c.loop-digit-test.true digit (omega arith) c.loop-digit.invariant.0,
      omega arith,
      omega (arith, c.loop-digit.invariant.2),
      omega (arith, c.loop-digit.invariant.3),
    )

pub returns-clause-number : goal.returns-clause-number
returns-clause-number c =
    let done : drop c.loop-digit.digit-index c.args.text.now ≡ [] = drop_all c.loop-digit.digit-index c.args.text.now (omega arith) in
    let counted : min c.loop-digit.number (2 ^ 32) ≡ min (digits_value 10 (digits_at c.args.text.now)) (2 ^ 32) = rw done at c.loop-digit.invariant.0 in
    omega (arith, c.loop-digit.invariant.1)

pub returns-clause-count : goal.returns-clause-count
returns-clause-count c =
    let done : drop c.loop-digit.digit-index c.args.text.now ≡ [] = drop_all c.loop-digit.digit-index c.args.text.now (omega arith) in
    let counted : c.loop-digit.digit-index + 0 ≡ length (digits_at c.args.text.now) = rw done at c.loop-digit.invariant.2 in
    omega (arith, c.loop-digit.invariant.3)
