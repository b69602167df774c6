-- The parts of a numeral, put together.
use Rattle.std.proofs.Common.{◌≡◌, ℕ, ◌+◌, ◌*◌, ◌/◌, ◌<◌, ◌≤◌, Bool, false, cond, List, [], ◌∷◌, length, drop, min, arith, ap, refl, sym, Ok, Err, ◌∙◌, append-nil, pos, ℤ, Result, ◌==◌}
use Rattle.std.proofs.lemmas.Bool.Decides.{nat_tests}
use Rattle.roff_num.specs.declared.num.NumFault.{NumFault}
use Rattle.roff_num.specs.declared.num.NumFault.TheVariants.{Missing}
use Rattle.roff_num.specs.declared.num.Scale.{Scale}
use Rattle.roff_num.specs.declared.numeral.Ratio.{Ratio}
use Rattle.roff_num.specs.Numerals.{decimals_at, digits_at, dot_at, numeral_at, numeral_of, size_of, unit_at}
use Rattle.std.specs.Str.Parse.{digits_value}
use Rattle.roff_num.specs.Operators.{begins_with}
use Rattle.roff_num.specs.Ranges.{in_range, signed}
use Rattle.roff_num.specs.Steps.{followed}
use Rattle.roff_num.proofs.Sizes.{in_range-capped_whole}

-- what a numeral of these parts gives
abbrev given_by : Bool → List ℕ → ℕ → List ℕ → Ratio × ℕ → Result (ℤ × ℕ) NumFault
given_by is_negative whole dot decimals unit =
    followed (in_range (signed is_negative (pos (size_of whole decimals unit.0)))) (λ v. Ok (v, length whole + (dot + length decimals) + unit.1))

-- what isn't 0 takes the second way
unless_zero : {A : Type 0} (n : ℕ) (x y : A) → 0 < n → y ≡ cond (n == 0) x y
unless_zero n x y some = grind (arith, nat_tests)

-- a numeral with a digit is what its parts give
numeral_of-some : (scale : Scale) (is_negative : Bool) (whole behind : List ℕ) → 0 < length whole + length (decimals_at behind)
    → given_by is_negative whole (dot_at behind) (decimals_at behind) (unit_at scale (drop (dot_at behind + length (decimals_at behind)) behind)) ≡ numeral_of scale is_negative whole behind
numeral_of-some scale is_negative whole behind some =
    unless_zero (length whole + length (decimals_at behind)) (Err Missing)
    (given_by is_negative whole (dot_at behind) (decimals_at behind) (unit_at scale (drop (dot_at behind + length (decimals_at behind)) behind)))
    some

-- a number of digits, by another name
some_digits : {m n : ℕ} → m ≡ n → 0 < m → 0 < n
some_digits e some = omega arith

-- so are the parts that are found one by one
pub numeral_at-parts : (text : List ℕ) (scale : Scale) (is_negative : Bool) (whole behind decimals rest : List ℕ) (dot : ℕ) (unit : Ratio × ℕ) (given : Result ℤ NumFault)
    → whole ≡ digits_at text → behind ≡ drop (length (digits_at text)) text → dot ≡ dot_at behind → decimals ≡ decimals_at behind
    → rest ≡ drop (dot + length decimals) behind → unit ≡ unit_at scale rest
    → given ≡ in_range (signed is_negative (pos (size_of whole decimals unit.0))) → 0 < length whole + length decimals
    → followed given (λ v. Ok (v, length whole + (dot + length decimals) + unit.1)) ≡ numeral_at scale is_negative text
numeral_at-parts text scale is_negative whole behind decimals rest dot unit given w b k d r u g some =
    let as_given : followed given (λ v. Ok (v, length whole + (dot + length decimals) + unit.1)) ≡ given_by is_negative whole dot decimals unit =
    ap (λ x. followed x (λ v. Ok (v, length whole + (dot + length decimals) + unit.1))) g in
    let as_unit : unit ≡ unit_at scale (drop (dot_at behind + length (decimals_at behind)) behind) = u ∙ ap (unit_at scale) (r ∙ (ap (λ n. drop (n + length decimals) behind) k ∙ ap (λ ds. drop (dot_at behind + length ds) behind) d)) in
    let as_dot : given_by is_negative whole dot decimals unit ≡ given_by is_negative whole (dot_at behind) decimals unit = ap (λ n. given_by is_negative whole n decimals unit) k in
    let as_decimals : given_by is_negative whole (dot_at behind) decimals unit ≡ given_by is_negative whole (dot_at behind) (decimals_at behind) unit = ap (λ ds. given_by is_negative whole (dot_at behind) ds unit) d in
    let as_whole : given_by is_negative whole (dot_at behind) (decimals_at behind) unit ≡ given_by is_negative whole (dot_at behind) (decimals_at behind) (unit_at scale (drop (dot_at behind + length (decimals_at behind)) behind)) =
    ap (given_by is_negative whole (dot_at behind) (decimals_at behind)) as_unit in
    let parts : numeral_of scale is_negative whole behind ≡ numeral_at scale is_negative text =
    ap (λ ds. numeral_of scale is_negative ds behind) w ∙ ap (numeral_of scale is_negative (digits_at text)) b in
    as_given ∙ (as_dot ∙ (as_decimals ∙ (as_whole ∙ (numeral_of-some scale is_negative whole behind (some_digits (ap (λ ds. length whole + length ds) d) some) ∙ parts))))

-- where no dot stands there are no decimals
no_dot : (behind : List ℕ) → begins_with 46 behind ≡ false → 0 ≡ dot_at behind
no_dot [] other = refl
no_dot (c ∷ behind) other = rw other refl

no_decimals : (behind : List ℕ) → begins_with 46 behind ≡ false → [] ≡ decimals_at behind
no_decimals [] other = refl
no_decimals (c ∷ behind) other = rw other refl

-- a numeral of whole digits is what the number that they write gives in its unit
pub numeral_at-whole : (text : List ℕ) (scale : Scale) (is_negative : Bool) (number count : ℕ) (behind : List ℕ) (unit : Ratio × ℕ) (given : Result ℤ NumFault)
    → number ≡ min (digits_value 10 (digits_at text)) 4294967296 → count ≡ length (digits_at text) → behind ≡ drop count text
    → begins_with 46 behind ≡ false → unit ≡ unit_at scale behind → 0 < unit.0.under → unit.0.under ≤ unit.0.over
    → given ≡ in_range (signed is_negative (pos (number * unit.0.over / unit.0.under))) → 0 < count
    → followed given (λ v. Ok (v, count + unit.1)) ≡ numeral_at scale is_negative text
numeral_at-whole text scale is_negative number count behind unit given n c b other u some more g digits =
    let whole : List ℕ = digits_at text in
    let size : given ≡ in_range (signed is_negative (pos (size_of whole [] unit.0))) =
    g ∙ (ap (λ k. in_range (signed is_negative (pos (k * unit.0.over / unit.0.under)))) n
    ∙ (in_range-capped_whole is_negative (digits_value 10 whole) unit.0.over unit.0.under some more
    ∙ ap (λ ds. in_range (signed is_negative (pos (digits_value 10 ds * unit.0.over / (1 * unit.0.under))))) (sym (append-nil whole)))) in
    let bytes : count + unit.1 ≡ length whole + (0 + 0) + unit.1 = omega arith in
    ap (λ k. followed given (λ v. Ok (v, k))) bytes
    ∙ numeral_at-parts text scale is_negative whole behind [] behind 0 unit given refl (b ∙ ap (λ k. drop k text) c) (no_dot behind other)
    (no_decimals behind other) refl u size (let some_digit : 0 < length whole + 0 = omega arith in some_digit)
