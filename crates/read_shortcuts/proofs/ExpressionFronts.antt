-- Bytes of an expression behind a condition of which nothing is read yet: those of a number begin it, and others are held in it.
use Rattle.std.proofs.Common.{◌≡◌, ℕ, suc, zero, ◌+◌, ◌==◌, ◌<◌, Bool, true, false, not, ◌&&◌, ◌||◌, List, [], ◌∷◌, ◌++◌, length, take, get_or, None, Some, inl, inr, refl, sym, ap, subst, ◌∙◌, arith, append-nil, append_assoc, length-append, codes, if◌then◌else◌, eqb-true, ne_eqb}
use Rattle.std.specs.List.{AllByRecursion}
use Rattle.std.proofs.lemmas.Bool.{cases_Bool}
use Rattle.input_source.specs.Bytes.{backslash, blank, is_digit, is_dropped, newline, tab}
use Rattle.input_escapes.specs.ConditionFronts.{ByteTaken, HalvesTaken, HoldsOn, IsHeld, NothingTaken, is_of_expression}
use Rattle.input_escapes.specs.Conditions.{begins_expression, expression_over, is_among}
use Rattle.input_escapes.specs.OpenEscape.{OpenEscape, Backslash, Condition, Reads}
use Rattle.input_escapes.specs.Waiting.{is_ended_by}
use Rattle.input_escapes.specs.declared.open_escape.ConditionPart.TheVariants.{Choice, Compared, Decided}
use Rattle.input_escapes.specs.declared.open_escape.CopyUnit.TheVariants.{Byte}
use Rattle.input_escapes.specs.declared.open_escape.Decision.{Decision}
use Rattle.input_escapes.specs.declared.open_escape.Decision.TheVariants.{Is, OnPages}
use Rattle.input_escapes.specs.declared.open_escape.Found.TheVariants.{GoesOn, Holds}
use Rattle.roff_scan.proofs.RunKinds.{no_newline_of}
use Rattle.roff_scan.specs.Unread.Calls.{NoNewline}
use Rattle.read_shortcuts.specs.Answered.{AreOfExpression, BeginsNumber, begins_number}
use Rattle.read_shortcuts.proofs.ConstantConditions.{choice, expression}

-- what holds of the first of some, and of the next one, holds of those
pub all_suc : (P : ℕ → Type 0) (xs : List ℕ) (n : ℕ) → n < length xs → AllByRecursion P (take n xs) → P (get_or xs n 0) → AllByRecursion P (take (suc n) xs)
all_suc P [] n less all next = absurd (omega (arith, less))
all_suc P (x ∷ xs) zero less all next = (next, tt)
all_suc P (x ∷ xs) (suc n) less all next = (all.0, all_suc P xs n (omega (arith, less)) all.1 next)

-- one byte more of an expression
pub expression-more : (bytes : List ℕ) (count : ℕ) → count < length bytes → is_of_expression (get_or bytes count 0) ≡ true → AreOfExpression (take count bytes)
    → AreOfExpression (take (count + 1) bytes)
expression-more bytes count less is are =
    let next : suc count ≡ count + 1 = omega arith in
    subst (λ (n : ℕ). AreOfExpression (take n bytes)) next (all_suc (λ b. is_of_expression b ≡ true) bytes count less are is)

-- bytes of which one is of a kind, and the other isn't
differs : (p : ℕ → Bool) (b c : ℕ) → p b ≡ true → p c ≡ false → (b == c) ≡ false
differs p b c is isnt = ne_eqb b c (λ same. cc)

-- none of five tests holds
none_of_five : (first second third fourth fifth : Bool) → (not (first || (second || third)) && not (fourth || fifth)) ≡ true
    → (first ≡ false) × ((second ≡ false) × ((third ≡ false) × ((fourth ≡ false) × (fifth ≡ false))))
none_of_five true second third fourth fifth none = absurd (cc)
none_of_five false true third fourth fifth none = absurd (cc)
none_of_five false false true fourth fifth none = absurd (cc)
none_of_five false false false true fifth none = absurd (cc)
none_of_five false false false false true none = absurd (cc)
none_of_five false false false false false none = (refl, (refl, (refl, (refl, refl))))

-- a digit or a minus begins an expression
begins-number : (b : ℕ) → begins_number b ≡ true → begins_expression b ≡ true
begins-number b begins = elim (cases_Bool (is_digit b)) [
  | inl digit ↦ ap (λ (c : Bool). c || is_among (codes "(+-.|") b) digit
  | inr other ↦
      let minus : (b == 45) ≡ true = sym (ap (λ (c : Bool). c || b == 45) other) ∙ begins in
      subst (λ (c : ℕ). begins_expression c ≡ true) (sym (eqb-true b 45 minus)) refl
]

-- one that is read, and decides
abbrev decided : Decision → List OpenEscape
decided decision = Condition (Decided decision None) [] ∷ []

-- what a byte of a choice gives, by the tests on it
abbrev gives : ℕ → Bool → Bool → Bool → Bool → Bool → Bool → Bool → Bool → Reads
gives b escapes blanks bang o e t n number =
    if escapes then (GoesOn, Backslash ∷ choice)
    else if blanks && true then (GoesOn, choice)
    else if bang && true then (GoesOn, Condition (Choice true) [] ∷ [])
    else if o then (GoesOn, decided (OnPages true))
    else if e then (GoesOn, decided (OnPages false))
    else if t then (GoesOn, decided (Is false))
    else if n then (GoesOn, decided (Is true))
    else if number then (Holds (Byte b), expression [])
    else (GoesOn, Condition (Compared false b None) [] ∷ [])

-- the first byte of an expression
holds-first : (b : ℕ) → begins_expression b ≡ true → is_of_expression b ≡ true → HoldsOn choice b (expression [])
holds-first b begins is =
    let none = none_of_five (b == backslash) (is_dropped b) (b == newline) (b == blank) (b == tab) is in
    let g = gives b in
    let other : (c : ℕ) → begins_expression c ≡ false → (b == c) ≡ false = λ c isnt. differs begins_expression b c begins isnt in
    record {
      stands = none.1.0;
      no_newline = none.1.1.0;
      stays = none.1.1.0;
      holds = λ base.
          ap (λ (c : Bool). g c (b == blank) (b == 33) (b == 111) (b == 101) (b == 116) (b == 110) (begins_expression b)) none.0
          ∙ ap (λ (c : Bool). g false c (b == 33) (b == 111) (b == 101) (b == 116) (b == 110) (begins_expression b)) none.1.1.1.0
          ∙ ap (λ (c : Bool). g false false c (b == 111) (b == 101) (b == 116) (b == 110) (begins_expression b)) (other 33 refl)
          ∙ ap (λ (c : Bool). g false false false c (b == 101) (b == 116) (b == 110) (begins_expression b)) (other 111 refl)
          ∙ ap (λ (c : Bool). g false false false false c (b == 116) (b == 110) (begins_expression b)) (other 101 refl)
          ∙ ap (λ (c : Bool). g false false false false false c (b == 110) (begins_expression b)) (other 116 refl)
          ∙ ap (λ (c : Bool). g false false false false false false c (begins_expression b)) (other 110 refl)
          ∙ ap (λ (c : Bool). g false false false false false false false c) begins;
      held = omega arith;
    }

-- such a byte ends no expression
pub expression-stays : (text : List ℕ) (b : ℕ) → is_of_expression b ≡ true → is_ended_by (expression text) (Some b) ≡ false
expression-stays text b is =
    let none = none_of_five (b == backslash) (is_dropped b) (b == newline) (b == blank) (b == tab) is in
    ap (λ (c : Bool). (c || b == tab) || b == newline) none.1.1.1.0 ∙ ap (λ (c : Bool). c || b == newline) none.1.1.1.1 ∙ none.1.1.0

-- it is held
holds-more : (text : List ℕ) (b : ℕ) → is_of_expression b ≡ true → HoldsOn (expression text) b (expression text)
holds-more text b is =
    let none = none_of_five (b == backslash) (is_dropped b) (b == newline) (b == blank) (b == tab) is in
    record {
      stands = none.1.0;
      no_newline = none.1.1.0;
      stays = expression-stays text b is;
      holds = λ base.
          ap (λ (c : Bool). if c then (GoesOn, Backslash ∷ expression text)
          else if c || b == tab then expression_over [] false (Some b) text else (Holds (Byte b), expression text)) none.0
          ∙ ap (λ (c : Bool). if c then expression_over [] false (Some b) text else (Holds (Byte b), expression text)) none.1.1.1.1;
      held = omega (arith, length-append text (b ∷ []));
    }

-- and so are all that stand behind each other
pub halves-more : (text more : List ℕ) → AreOfExpression more → HalvesTaken (expression text) more (expression (text ++ more))
halves-more text [] are = subst (λ (t : List ℕ). HalvesTaken (expression text) [] (expression t)) (sym (append-nil text)) (NothingTaken (expression text))
halves-more text (b ∷ more) are =
    ByteTaken (expression text) (expression (text ++ b ∷ [])) (expression (text ++ b ∷ more)) b more (IsHeld (expression text) (holds-more text b are.0) refl)
    (subst (λ (t : List ℕ). HalvesTaken (expression (text ++ b ∷ [])) more (expression t)) (append_assoc text (b ∷ []) more)
    (halves-more (text ++ b ∷ []) more are.1))

-- a number begins the expression of a condition of which nothing is read yet
pub halves-number : (text : List ℕ) → BeginsNumber text → HalvesTaken choice text (expression text)
halves-number text number =
    let first : ℕ = number.first in
    let others : List ℕ = number.others in
    let are : AreOfExpression (first ∷ others) = subst AreOfExpression number.is number.are in
    subst (λ (t : List ℕ). HalvesTaken choice t (expression t)) (sym number.is)
    (ByteTaken choice (expression (first ∷ [])) (expression (first ∷ others)) first others
    (IsHeld (expression []) (holds-first first (begins-number first number.begins) are.0) refl) (halves-more (first ∷ []) others are.1))

-- no newline is among them
pub expression-plain : (bytes : List ℕ) → AreOfExpression bytes → NoNewline bytes
expression-plain bytes are = no_newline_of is_of_expression refl bytes are
