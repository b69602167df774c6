-- Lists of pages: their parts, their ranges and numbers, read one after another.
use Rattle.std.proofs.Common.{◌≡◌, ◌≢◌, ◌∙◌, ◌<◌, ◌^◌, ◌++◌, ℕ, ℤ, suc, Bool, true, false, List, [], ◌∷◌, Option, Some, None, ap, arith, get_or, length, nat_lt, refl, rules, sym, w32, lt-ltb, ltb-true, eq-eqb, ne_eqb, Result, Ok, Err, if◌then◌else◌, option_and_then, option_map, ◌==◌}
use Rattle.std.proofs.lemmas.Str.Parse.{IsNumeralModel, numerals_by_value, parse_signed_digits}
use Rattle.std.specs.Borrow.{Bor}
use Rattle.std.specs.Char.{is_ascii_digit}
use Rattle.std.specs.List.{list_all}
use Rattle.std.specs.Option.{MatchOption}
use Rattle.std.specs.Str.Parse.{ParsesSigned, digits_value}
use Rattle.clap.specs.Words.{Text}
use Rattle.roff_num.specs.declared.num.Num.{Num}
use Rattle.input_source.specs.Bytes.{comma}
use Rattle.cli_words.specs.PagesAsked.{are_digits, in_front, next_range, page_written, parts_at, ranges_behind, split_at}
use Rattle.cli_words.specs.RegistersAsked.{Adds}

-- where there is no such byte nothing is split off
split_at-absent : (mark : ℕ) (text : Text) → ((i : ℕ) → i < length text → get_or text i 0 ≢ mark) → split_at mark text ≡ None
unfolding split_at
split_at-absent mark [] none = refl
split_at-absent mark (b ∷ text) none =
    rw (ne_eqb b mark (none 0 (omega arith)), split_at-absent mark text (λ i less. none (suc i) (omega (arith, less)))) refl

-- and where there is one the first is
split_at-first : (mark : ℕ) (front back : Text) → ((i : ℕ) → i < length front → get_or front i 0 ≢ mark) → split_at mark (front ++ mark ∷ back) ≡ Some (front, back)
unfolding split_at
split_at-first mark [] back none = rw (eq-eqb mark mark refl) refl
split_at-first mark (b ∷ front) back none =
    rw (ne_eqb b mark (none 0 (omega arith)), split_at-first mark front back (λ i less. none (suc i) (omega (arith, less)))) refl

-- so what a text is split into is known by these
pub split_at-from : (mark : ℕ) (text : Text) (r : Option (Bor Text × Bor Text))
    → MatchOption r ((i : ℕ) → i < length text → get_or text i 0 ≢ mark)
    (λ x. (text ≡ x.0.now ++ (mark ∷ x.1.now)) × ((i : ℕ) → i < length x.0.now → get_or x.0.now i 0 ≢ mark))
    → option_map (λ parts. (parts.0.now, parts.1.now)) r ≡ split_at mark text
split_at-from mark text None none = sym (split_at-absent mark text none)
split_at-from mark text (Some x) some = sym (ap (split_at mark) some.0 ∙ split_at-first mark x.0.now x.1.now some.1)

-- the parts of a text, by what it is split into
abbrev parts_by : ℕ → Text → Option (Text × Text) → List Text
parts_by mark text None = text ∷ []
parts_by mark text (Some parts) = parts.0 ∷ parts_at mark parts.1

parts_at-split : (mark : ℕ) (text : Text) → parts_at mark text ≡ parts_by mark text (split_at mark text)
unfolding parts_at split_at
parts_at-split mark [] = refl
parts_at-split mark (b ∷ text) = by_test (b == mark) (split_at mark text) (parts_at-split mark text)
  where
    by_test : (is : Bool) (s : Option (Text × Text)) → parts_at mark text ≡ parts_by mark text s
        → (if is then [] ∷ parts_at mark text else in_front b (parts_at mark text))
        ≡ parts_by mark (b ∷ text) (if is then Some ([], text) else option_map (λ parts. (b ∷ parts.0, parts.1)) s)
    by_test true s same = refl
    by_test false None same = ap (in_front b) same
    by_test false (Some parts) same = ap (in_front b) same

-- what a text is split into, by whether its first byte is one, and by what the others are split into
abbrev split_by : ℕ → Text → Bool → Option (Text × Text) → Option (Text × Text)
split_by b text true s = Some ([], text)
split_by b text false s = option_map (λ parts. (b ∷ parts.0, parts.1)) s

-- what stands behind the split
abbrev left_of : Option (Text × Text) → Text
left_of None = []
left_of (Some parts) = parts.1

none-split : (mark : ℕ) (front back : Text) → split_at mark [] ≡ Some (front, back) → length back < 0
unfolding split_at
none-split mark front back is = cc

split_at-more : (mark b : ℕ) (text : Text) → split_at mark (b ∷ text) ≡ split_by b text (b == mark) (split_at mark text)
unfolding split_at
split_at-more mark b text = by_test (b == mark) (split_at mark text)
  where
    by_test : (here : Bool) (s : Option (Text × Text))
        → if◌then◌else◌ {A = Option (Text × Text)} here (Some ([], text)) (option_map (λ parts. (b ∷ parts.0, parts.1)) s) ≡ split_by b text here s
    by_test true s = refl
    by_test false s = refl

-- what is left is shorter
split_at-shorter : (mark : ℕ) (text front back : Text) → split_at mark text ≡ Some (front, back) → length back < length text
split_at-shorter mark [] front back is = none-split mark front back is
split_at-shorter mark (b ∷ text) front back is =
    by_test (b == mark) (split_at mark text) (λ parts same. split_at-shorter mark text parts.0 parts.1 same) (sym (split_at-more mark b text) ∙ is)
  where
    by_test : (here : Bool) (s : Option (Text × Text)) → ((parts : Text × Text) → s ≡ Some (parts.0, parts.1) → length parts.1 < length text)
        → split_by b text here s ≡ Some (front, back) → length back < length (b ∷ text)
    by_test true s shorter there = let same = ap (λ s. length (left_of s)) there in omega (arith, same)
    by_test false None shorter there = cc
    by_test false (Some parts) shorter there =
        let less = shorter parts refl in
        let same = ap (λ s. length (left_of s)) there in omega (arith, less, same)

pub left-shorter : (mark : ℕ) (text front back : Text) → Some (front, back) ≡ split_at mark text → length back < length text
left-shorter mark text front back is = split_at-shorter mark text front back (sym is)

-- a list of which so many ranges are read
module _ (text : Text) (done : List (Num × Num)) (all : Option (List (Num × Num))) (so_far : ranges_behind done (parts_at comma text) ≡ all) where
  -- its parts, split so
  split_is : (s : Option (Text × Text)) → s ≡ split_at comma text → ranges_behind done (parts_by comma text s) ≡ all
  split_is s is = ap (λ s. ranges_behind done (parts_by comma text s)) is ∙ sym (ap (ranges_behind done) (parts_at-split comma text)) ∙ so_far

  -- the next range is bad
  pub bad_range : (front back : Text) → Some (front, back) ≡ split_at comma text → next_range done front ≡ None → None ≡ all
  unfolding ranges_behind
  bad_range front back is none =
      sym (ap (option_and_then (λ range. ranges_behind (done ++ range ∷ []) (parts_at comma back))) none) ∙ split_is (Some (front, back)) is

  -- it is one more
  pub one_range : (front back : Text) (done' : List (Num × Num)) → Some (front, back) ≡ split_at comma text → Adds (next_range done front) done done'
      → ranges_behind done' (parts_at comma back) ≡ all
  unfolding ranges_behind
  one_range front back done' is adds = go (next_range done front) refl adds
    where
      go : (next : Option (Num × Num)) → next_range done front ≡ next → Adds next done done' → ranges_behind done' (parts_at comma back) ≡ all
      go None was adds = absurd adds
      go (Some range) was adds =
          ap (λ l. ranges_behind l (parts_at comma back)) adds
          ∙ sym (ap (option_and_then (λ range. ranges_behind (done ++ range ∷ []) (parts_at comma back))) was) ∙ split_is (Some (front, back)) is

  -- the last one is bad
  pub bad_last : None ≡ split_at comma text → next_range done text ≡ None → None ≡ all
  unfolding ranges_behind
  bad_last is none = sym (ap (option_and_then (λ range. ranges_behind (done ++ range ∷ []) [])) none) ∙ split_is None is

  -- all are read with it
  pub last_range : (done' : List (Num × Num)) → None ≡ split_at comma text → Adds (next_range done text) done done' → Some done' ≡ all
  unfolding ranges_behind
  last_range done' is adds = go (next_range done text) refl adds
    where
      go : (next : Option (Num × Num)) → next_range done text ≡ next → Adds next done done' → Some done' ≡ all
      go None was adds = absurd adds
      go (Some range) was adds =
          ap (λ l. Some l) adds ∙ sym (ap (option_and_then (λ range. ranges_behind (done ++ range ∷ []) [])) was) ∙ split_is None is

-- digits are read as the parser of numbers reads them
are_digits-model : IsNumeralModel (λ ds. list_all is_ascii_digit ds ≡ true) (digits_value 10)
are_digits-model = numerals_by_value _ (search rules)

-- the page of a number that was read, if one was
abbrev pub page_read : {E : Type 0} → Result ℤ E → Option Num
page_read (Ok n) = Some (record { 0 = n })
page_read (Err e) = None

-- what a text of digits is read as
pub page-parsed : {E : Type 0} (text : Text) (r : Result ℤ E) → ParsesSigned w32 10 text r → are_digits text ≡ true
    → page_read r ≡ page_written text
page-parsed {E} text (Ok n) parses digits =
    let r : Result ℤ E = Ok n in
    let read = parse_signed_digits are_digits-model w32 text r parses digits in
    rw (digits, lt-ltb 0 (length text) read.0.0, lt-ltb (digits_value 10 text) (2 ^ 31) read.0.1, read.1) refl
page-parsed {E} text (Err e) parses digits = go (nat_lt 0 (length text)) (nat_lt (digits_value 10 text) (2 ^ 31)) refl refl
  where
    go : (some within : Bool) → nat_lt 0 (length text) ≡ some → nat_lt (digits_value 10 text) (2 ^ 31) ≡ within → None ≡ page_written text
    go false within is_some is_within = rw (digits, is_some) refl
    go true false is_some is_within = rw (digits, is_some, is_within) refl
    go true true is_some is_within =
        let r : Result ℤ E = Err e in
        let none = parse_signed_digits are_digits-model w32 text r parses digits in
        absurd (none (ltb-true _ _ is_some, ltb-true _ _ is_within))
