-- Bytes outside tables that pass, many at once.
use Rattle.std.proofs.Common.{zero, suc, ◌≡◌, ◌==◌, ◌&&◌, ℕ, ◌≤◌, Bool, true, false, not, List, [], ◌∷◌, ◌++◌, Option, Some, None, length, take, drop, if◌then◌else◌, refl, sym, ap, ◌∙◌, subst, arith, unwrap_or, take-append-drop}
use Rattle.std.specs.List.{take_while, prefix_len}
use Rattle.std.proofs.lemmas.List.Sums.{prefix_len_is}
use Rattle.memchr.specs.Find.{IsFirstByte, is_byte}
use Rattle.input_source.specs.Bytes.{newline}
use Rattle.tbl_core.specs.declared.place.Front.{Front}
use Rattle.tbl_core.specs.declared.place.Front.TheVariants.{Nothing, Dot, Letter, Name, Other}
use Rattle.tbl_core.specs.Lines.{ends_name, front_behind, is_name, is_other, start_letter}
use Rattle.tbl_core.specs.Passing.{IsWithinLine, StaysOutside, before_table, front_over, is_of_line}

-- a line that begins otherwise still does behind a byte within it
other_unless : (t : Bool) → not t ≡ true → (if t then Nothing else Other) ≡ Other
other_unless true within = cc
other_unless false within = refl

-- so no byte makes it a `.TS` line
before_other : (line : List ℕ) → IsWithinLine line → before_table Other line ≡ line
before_other [] within = refl
before_other (b ∷ line) within =
    ap (λ (front : Front). b ∷ before_table front line) (other_unless (b == newline) within.0)
    ∙ ap (λ (bytes : List ℕ). b ∷ bytes) (before_other line within.1)

-- a line that begins otherwise
is_other-Other : (front : Front) → is_other front ≡ true → front ≡ Other
is_other-Other Nothing is = cc
is_other-Other Dot is = cc
is_other-Other Letter is = cc
is_other-Other Name is = cc
is_other-Other Other is = refl

module _ (line whole : List ℕ) (front : Front) (count : ℕ) where
  -- all of it passes
  pub before-all : is_other front ≡ true → IsWithinLine (drop count line)
      → take count line ++ before_table front (drop count line) ≡ whole → line ≡ whole
  before-all is within so_far =
      let rest : before_table front (drop count line) ≡ drop count line =
      rw (is_other-Other front is) (before_other (drop count line) within) in
      sym (take-append-drop count line) ∙ ap (λ (bytes : List ℕ). take count line ++ bytes) (sym rest) ∙ so_far

-- the front behind bytes that stay outside
unless_newline : (t : Bool) → t ≡ false → (if t then Nothing else Other) ≡ Other
unless_newline true is = cc
unless_newline false is = refl

over_other : (bytes : List ℕ) → StaysOutside Other bytes → front_over Other bytes ≡ Other
over_other [] stays = refl
over_other (b ∷ bytes) stays =
    let front = unless_newline (b == newline) stays.0 in
    ap (λ (f : Front). front_over f bytes) front ∙ over_other bytes (subst (λ (f : Front). StaysOutside f bytes) front stays.2)

module _ (bytes : List ℕ) (whole front : Front) (count : ℕ) where
  pub over-all : is_other front ≡ true → StaysOutside front (drop count bytes) → front_over front (drop count bytes) ≡ whole
      → front ≡ whole
  over-all is stays so_far =
      let other = is_other-Other front is in
      let rest = over_other (drop count bytes) (subst (λ (f : Front). StaysOutside f (drop count bytes)) other stays) in
      other ∙ sym rest ∙ ap (λ (f : Front). front_over f (drop count bytes)) (sym other) ∙ so_far

-- the front of a line, as it is found
not_found : (t : Bool) → (t ≡ true → ⊥) → not t ≡ true
not_found false unfound = refl
not_found true unfound = absurd (unfound refl)

newline_place : (bytes : List ℕ) (found : Option ℕ) → IsFirstByte (is_byte newline) bytes found
    → prefix_len is_of_line bytes ≡ unwrap_or found (length bytes)
newline_place bytes None none =
    prefix_len_is is_of_line bytes (length bytes) 0 (omega arith) (λ k lt. not_found _ (none k (omega arith) lt))
    (λ lt. absurd (omega arith))
newline_place bytes (Some at) first =
    prefix_len_is is_of_line bytes at 0 (omega arith) (λ k lt. not_found _ (first.0.before k (omega arith) lt))
    (λ lt. ap not first.1)

pub line-front : (bytes : List ℕ) (found : Option ℕ) → IsFirstByte (is_byte newline) bytes found
    → take (unwrap_or found (length bytes)) bytes ≡ take_while is_of_line bytes
line-front bytes found first = ap (λ (n : ℕ). take n bytes) (sym (newline_place bytes found first))

-- bytes of a line stay outside up to the one that makes it a `.TS` line
newline_not : (t : Bool) → not t ≡ true → t ≡ false
newline_not true is = cc
newline_not false is = refl

stays-unless : (t : Bool) (front : Front) (b n : ℕ) (line : List ℕ) → (b == newline) ≡ false → (is_name front && ends_name b) ≡ t
    → StaysOutside (front_behind start_letter front b) (take n (before_table (front_behind start_letter front b) line))
    → StaysOutside front (take (suc n) (if t then [] else b ∷ before_table (front_behind start_letter front b) line))
stays-unless true front b n line within is stays = tt
stays-unless false front b n line within is stays = (within, is, stays)

pub before-stays : (front : Front) (line : List ℕ) (n : ℕ) → IsWithinLine line
    → StaysOutside front (take n (before_table front line))
before-stays front line zero within = tt
before-stays front [] (suc n) within = tt
before-stays front (b ∷ line) (suc n) within =
    stays-unless (is_name front && ends_name b) front b n line (newline_not (b == newline) within.0) refl
    (before-stays (front_behind start_letter front b) line n within.1)

-- they are the line's first bytes
first-unless : (t : Bool) (b n : ℕ) (front line : List ℕ) → suc n ≤ length (if t then [] else b ∷ front)
    → (n ≤ length front → take n front ≡ take n line)
    → take (suc n) (if t then [] else b ∷ front) ≡ take (suc n) (b ∷ line)
first-unless true b n front line few same = absurd (omega (arith, few))
first-unless false b n front line few same = ap (λ (bytes : List ℕ). b ∷ bytes) (same (omega (arith, few)))

pub before-first : (front : Front) (line : List ℕ) (n : ℕ) → n ≤ length (before_table front line)
    → take n (before_table front line) ≡ take n line
before-first front line zero few = refl
before-first front [] (suc n) few = refl
before-first front (b ∷ line) (suc n) few =
    first-unless (is_name front && ends_name b) b n (before_table (front_behind start_letter front b) line) line few
    (before-first (front_behind start_letter front b) line n)

-- and no more than it has
length-unless : (t : Bool) (b : ℕ) (front line : List ℕ) → length front ≤ length line
    → length (if t then [] else b ∷ front) ≤ length (b ∷ line)
length-unless true b front line few = omega arith
length-unless false b front line few = omega (arith, few)

pub before-few : (front : Front) (line : List ℕ) → length (before_table front line) ≤ length line
before-few front [] = omega arith
before-few front (b ∷ line) =
    length-unless (is_name front && ends_name b) b (before_table (front_behind start_letter front b) line) line
    (before-few (front_behind start_letter front b) line)
