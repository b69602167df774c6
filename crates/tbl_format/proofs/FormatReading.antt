-- The keys and the columns of a format, as it is read byte by byte.
use Rattle.std.proofs.Common.{◌≡◌, ℕ, zero, suc, ◌+◌, ◌<◌, ◌≤◌, max, Bool, true, false, List, [], ◌∷◌, ◌++◌, length, take, drop, get_or, nat_lt, not, inl, inr, length-drop, refl, sym, ap, subst, ◌∙◌, arith, append-nil, append_assoc, if◌then◌else◌, length-take-le}
use Rattle.std.proofs.lemmas.Bool.{cases_lt}
use Rattle.std.proofs.lemmas.Bool.Decides.{nat_tests}
use Rattle.std.proofs.lemmas.List.{take_more}
use Rattle.input_source.specs.Bytes.{newline}
use Rattle.tbl_format.specs.Format.{Format, FormatRow, asked_by, asking_for_bars, at_fault, columns_of_keys, done, fault_if, format_byte, format_byte_at, format_read, has_some, is_misplaced, looked_again, most_bars, read_behind, said_by, stepped, with_any_key, with_asked, with_columns, with_key, with_whole}
use Rattle.tbl_format.specs.FormatRows.{key_count, keys_of}
use Rattle.tbl_format.specs.FormatSteps.{step}
use Rattle.tbl_format.specs.KeyCounts.{Counts, StandsOnLine}
use Rattle.tbl_format.specs.declared.format.Asked.{Asked}
use Rattle.tbl_format.specs.declared.format.FormatPlace.{FormatPlace}
use Rattle.tbl_format.specs.declared.format.FormatPlace.TheVariants.{AtEnd, AtFault, InRows}
use Rattle.tbl_format.specs.declared.format.Key.{Key}
use Rattle.tbl_format.specs.declared.format.RowPart.{RowPart}
use Rattle.tbl_format.specs.declared.format.RowPart.TheVariants.{BehindKey}
use Rattle.tbl_format.specs.declared.format_step.Does.{Does}
use Rattle.tbl_format.specs.declared.format_step.Does.TheVariants.{AddBar, AddKey, DropWidth, EndFormat, EndRow, Equalize, LeaveOut, Nothing, Separate, Stand, Widen}
use Rattle.tbl_format.specs.declared.format_step.FormatStep.{FormatStep}
use Rattle.tbl_format.specs.declared.key_count.KeyCount.{KeyCount}
use Rattle.tbl_format.proofs.KeyCounting.{counted, counted-is, has_some-long, has_some-none, length-asking}
use Rattle.tbl_format.proofs.KeysWith.{length-last_changed, length-with}
use Rattle.tbl_format.proofs.StepPlaces.{EndsNoKey, byte-stands, newline-stands, step-ends}

-- a format that has as many keys and columns as another one
record Same (f g : Format) : Type 0 where
  keys : key_count g ≡ key_count f
  columns : length g.asked ≡ length f.asked

-- one that has at most one more of each, and no fewer columns
pub record Grows (f g : Format) : Type 0 where
  pub keys : key_count g ≤ key_count f + 1
  pub least : length f.asked ≤ length g.asked
  pub most : length g.asked ≤ length f.asked + 1

Grows-same : (f g : Format) → Same f g → Grows f g
Grows-same f g same = record {
  keys = omega (arith, same.keys);
  least = omega (arith, same.columns);
  most = omega (arith, same.columns);
}

Grows-refl : (f : Format) → Grows f f
Grows-refl f = Grows-same f f (record { keys = refl; columns = refl })

-- the keys of one row more
pub keys_of-append : (rows more : List FormatRow) → keys_of (rows ++ more) ≡ keys_of rows + keys_of more
keys_of-append [] more = omega arith
keys_of-append (first ∷ rows) more = omega (arith, keys_of-append rows more)

Same-fault : (t : Bool) (f g : Format) → Same f g → Same f (fault_if t g)
Same-fault true f g same = record { keys = same.keys; columns = same.columns }
Same-fault false f g same = same

Same-whole : (t u : Bool) (f : Format)
    → Same f (if t then record f { rows = f.rows ++ record { keys = f.row; bars = f.bars } ∷ []; row = []; bars = 0 } else fault_if u f)
Same-whole true u f = record { keys = omega (arith, keys_of-append f.rows (record { keys = f.row; bars = f.bars } ∷ [])); columns = refl }
Same-whole false u f = Same-fault u f f (record { keys = refl; columns = refl })

Same-asking : (t : Bool) (f : Format) → Same f (if t then with_asked (most_bars f.bars) f else record f { front = max f.front f.bars })
Same-asking true f = record { keys = refl; columns = length-asking (most_bars f.bars) (columns_of_keys f.row) f.asked }
Same-asking false f = record { keys = refl; columns = refl }

Same-bar : (t : Bool) (f : Format) → Same f (if t then asking_for_bars (record f { bars = f.bars + 1 }) else at_fault f)
Same-bar true f =
    let same = Same-asking (has_some f.row) (record f { bars = f.bars + 1 }) in record { keys = same.keys; columns = same.columns }
Same-bar false f = record { keys = refl; columns = refl }

-- a key
columns-least : (asked : List Asked) (count : ℕ) → length asked ≤ length (with_columns asked count)
columns-least [] count = omega arith
columns-least (a ∷ asked) zero = omega arith
columns-least (a ∷ asked) (suc count) = omega (arith, columns-least asked count)

columns-most : (asked : List Asked) (count : ℕ) → length (with_columns asked count) ≤ length asked + 1
columns-most [] count = omega arith
columns-most (a ∷ asked) zero = omega arith
columns-most (a ∷ asked) (suc count) = omega (arith, columns-most asked count)

Grows-fault : (t : Bool) (f g : Format) → Grows f g → Grows f (fault_if t g)
Grows-fault true f g grows = record { keys = grows.keys; least = grows.least; most = grows.most }
Grows-fault false f g grows = grows

Grows-key : (f : Format) (key : Key) → Grows f (with_key key f)
Grows-key f key =
    Grows-fault (is_misplaced key f) f (with_any_key key f) (record {
      keys = omega (arith, length-with key f.bars f.row);
      least = columns-least f.asked (columns_of_keys f.row);
      most = columns-most f.asked (columns_of_keys f.row);
    })

Grows-done : (does : Does) (f : Format) → Grows f (done does f)
Grows-done Nothing f = Grows-refl f
Grows-done (AddKey key) f = Grows-key f key
Grows-done AddBar f = Grows-same f _ (Same-bar (nat_lt f.bars 2) f)
Grows-done (Separate n) f = Grows-same f _ (record { keys = refl; columns = length-asking (asked_by (Separate n)) (columns_of_keys f.row) f.asked })
Grows-done (Widen n) f = Grows-same f _ (record { keys = refl; columns = length-asking (asked_by (Widen n)) (columns_of_keys f.row) f.asked })
Grows-done Equalize f = Grows-same f _ (record { keys = refl; columns = length-asking (asked_by Equalize) (columns_of_keys f.row) f.asked })
Grows-done DropWidth f = Grows-same f _ (record { keys = omega (arith, length-last_changed (said_by DropWidth) f.row); columns = refl })
Grows-done (Stand standing) f = Grows-same f _ (record { keys = omega (arith, length-last_changed (said_by (Stand standing)) f.row); columns = refl })
Grows-done (LeaveOut letter) f = Grows-refl f
Grows-done EndRow f = Grows-same f (with_whole f) (Same-whole (has_some f.row) (nat_lt 0 f.bars) f)
Grows-done EndFormat f =
    Grows-same f _ (Same-fault (not (has_some (with_whole f).rows)) f (with_whole f) (Same-whole (has_some f.row) (nat_lt 0 f.bars) f))

-- what is no key
Same-done : (does : Does) (f : Format) → EndsNoKey true does → Same f (done does f)
Same-done Nothing f is_none = record { keys = refl; columns = refl }
Same-done (AddKey key) f is_none = absurd is_none
Same-done AddBar f is_none = Same-bar (nat_lt f.bars 2) f
Same-done (Separate n) f is_none = record { keys = refl; columns = length-asking (asked_by (Separate n)) (columns_of_keys f.row) f.asked }
Same-done (Widen n) f is_none = record { keys = refl; columns = length-asking (asked_by (Widen n)) (columns_of_keys f.row) f.asked }
Same-done Equalize f is_none = record { keys = refl; columns = length-asking (asked_by Equalize) (columns_of_keys f.row) f.asked }
Same-done DropWidth f is_none = record { keys = omega (arith, length-last_changed (said_by DropWidth) f.row); columns = refl }
Same-done (Stand standing) f is_none = record { keys = omega (arith, length-last_changed (said_by (Stand standing)) f.row); columns = refl }
Same-done (LeaveOut letter) f is_none = record { keys = refl; columns = refl }
Same-done EndRow f is_none = Same-whole (has_some f.row) (nat_lt 0 f.bars) f
Same-done EndFormat f is_none =
    Same-fault (not (has_some (with_whole f).rows)) f (with_whole f) (Same-whole (has_some f.row) (nat_lt 0 f.bars) f)

-- a step, and the next one where the byte is looked at again
Grows-stepped : (s : FormatStep) (f : Format) → Grows f (stepped s f)
Grows-stepped s f =
    let grows = Grows-done s.does (record f { place = s.place }) in
    record { keys = grows.keys; least = grows.least; most = grows.most }

Grows-behind : (f g h : Format) → Same f g → Grows g h → Grows f h
Grows-behind f g h same grows = record {
  keys = omega (arith, same.keys, grows.keys);
  least = omega (arith, same.columns, grows.least);
  most = omega (arith, same.columns, grows.most);
}

Same-stepped : (s : FormatStep) (f : Format) → EndsNoKey true s.does → Same f (stepped s f)
Same-stepped s f is_none =
    let same = Same-done s.does (record f { place = s.place }) is_none in
    record { keys = same.keys; columns = same.columns }

Grows-again : (t : Bool) (s : FormatStep) (front : List ℕ) (b : ℕ) (f : Format) → EndsNoKey t s.does → Grows f (looked_again t front b (stepped s f))
Grows-again false s front b f ends = Grows-stepped s f
Grows-again true s front b f ends =
    Grows-behind f (stepped s f) _ (Same-stepped s f ends) (Grows-stepped (step BehindKey front b) (stepped s f))

Grows-at : (place : FormatPlace) (front : List ℕ) (f : Format) (b : ℕ) → Grows f (format_byte_at place front f b)
Grows-at (InRows part) front f b =
    let s = step part front b in Grows-again s.is_again s front b f (step-ends part front b)
Grows-at AtEnd front f b = Grows-refl f
Grows-at AtFault front f b = Grows-refl f

-- one byte more
pub Grows-byte : (front : List ℕ) (f : Format) (b : ℕ) → Grows f (format_byte front f b)
Grows-byte front f b = Grows-at f.place front f b

-- the first of two looks leaves room for the second
pub keys-again : (part : RowPart) (front : List ℕ) (b : ℕ) (f : Format) → (step part front b).is_again ≡ true
    → key_count (stepped (step part front b) f) ≡ key_count f
keys-again part front b f again =
    let s = step part front b in
    (Same-stepped s f (subst (λ (t : Bool). EndsNoKey t s.does) again (step-ends part front b))).keys

-- a byte of the rows, by its steps
module _ (front : List ℕ) (f : Format) (b : ℕ) (part : RowPart) (s : FormatStep) (place : f.place ≡ InRows part) (is : s ≡ step part front b) where
  byte-step : format_byte front f b ≡ looked_again s.is_again front b (stepped s f)
  byte-step =
      ap (λ (p : FormatPlace). format_byte_at p front f b) place
      ∙ ap (λ (r : FormatStep). looked_again r.is_again front b (stepped r f)) (sym is)

  pub byte-once : s.is_again ≡ false → format_byte front f b ≡ stepped s f
  byte-once once = byte-step ∙ ap (λ (t : Bool). looked_again t front b (stepped s f)) once

  pub byte-again : (next : FormatStep) → s.is_again ≡ true → next ≡ step BehindKey front b → format_byte front f b ≡ stepped next (stepped s f)
  byte-again next again next_is =
      byte-step ∙ ap (λ (t : Bool). looked_again t front b (stepped s f)) again
      ∙ ap (λ (r : FormatStep). stepped r (stepped s f)) (sym next_is)

-- the first of two looks makes no more columns than both
columns-looked : (t : Bool) (front : List ℕ) (b : ℕ) (f : Format) → length f.asked ≤ length (looked_again t front b f).asked
columns-looked false front b f = omega arith
columns-looked true front b f = (Grows-stepped (step BehindKey front b) f).least

pub columns-first : (front : List ℕ) (f : Format) (b : ℕ) (part : RowPart) (s : FormatStep) → f.place ≡ InRows part → s ≡ step part front b
    → length (stepped s f).asked ≤ length (format_byte front f b).asked
columns-first front f b part s place is =
    omega (arith, ap (λ (g : Format). length g.asked) (byte-step front f b part s place is), columns-looked s.is_again front b (stepped s f))

-- more bytes
pub keys-read : (front : List ℕ) (f : Format) (bytes : List ℕ) → key_count (read_behind front f bytes) ≤ key_count f + length bytes
keys-read front f [] = omega arith
keys-read front f (b ∷ bytes) = omega (arith, (Grows-byte front f b).keys, keys-read (front ++ b ∷ []) (format_byte front f b) bytes)

pub columns-read : (front : List ℕ) (f : Format) (bytes : List ℕ) → length f.asked ≤ length (read_behind front f bytes).asked
columns-read front f [] = omega arith
columns-read front f (b ∷ bytes) = omega (arith, (Grows-byte front f b).least, columns-read (front ++ b ∷ []) (format_byte front f b) bytes)

pub columns-read-most : (front : List ℕ) (f : Format) (bytes : List ℕ) → length (read_behind front f bytes).asked ≤ length f.asked + length bytes
columns-read-most front f [] = omega arith
columns-read-most front f (b ∷ bytes) = omega (arith, (Grows-byte front f b).most, columns-read-most (front ++ b ∷ []) (format_byte front f b) bytes)

-- a front of them makes no more columns than all
pub columns-front : (front : List ℕ) (f : Format) (bytes : List ℕ) (n : ℕ) → length (read_behind front f (take n bytes)).asked ≤ length (read_behind front f bytes).asked
columns-front front f [] zero = omega arith
columns-front front f [] (suc n) = omega arith
columns-front front f (b ∷ bytes) zero = columns-read front f (b ∷ bytes)
columns-front front f (b ∷ bytes) (suc n) = columns-front (front ++ b ∷ []) (format_byte front f b) bytes n

-- bytes behind others
pub read-append : (front : List ℕ) (f : Format) (bytes more : List ℕ)
    → read_behind front f (bytes ++ more) ≡ read_behind (front ++ bytes) (read_behind front f bytes) more
read-append front f [] more = ap (λ (xs : List ℕ). read_behind xs f more) (sym (append-nil front))
read-append front f (b ∷ bytes) more =
    read-append (front ++ b ∷ []) (format_byte front f b) bytes more
    ∙ ap (λ (xs : List ℕ). read_behind xs (read_behind (front ++ b ∷ []) (format_byte front f b) bytes) more) (append_assoc front (b ∷ []) bytes)

pub read-last : (f : Format) (line : List ℕ) (b : ℕ) → format_read f (line ++ b ∷ []) ≡ format_byte line (format_read f line) b
read-last f line b = read-append [] f line (b ∷ [])

-- one byte more than a front of them
pub read-more : (f : Format) (bytes : List ℕ) (at : ℕ) → at < length bytes
    → format_read f (take (at + 1) bytes) ≡ format_byte (take at bytes) (format_read f (take at bytes)) (get_or bytes at 0)
read-more f bytes at more =
    ap (format_read f) (take_more bytes at 0 more) ∙ read-last f (take at bytes) (get_or bytes at 0)

pub columns-more : (f : Format) (bytes : List ℕ) (at : ℕ) → at < length bytes
    → length (format_byte (take at bytes) (format_read f (take at bytes)) (get_or bytes at 0)).asked ≤ length (format_read f bytes).asked
columns-more f bytes at more =
    omega (arith, ap (λ (g : Format). length g.asked) (read-more f bytes at more), columns-front [] f bytes (at + 1))

pub keys-front : (f : Format) (bytes : List ℕ) (at : ℕ) → at ≤ length bytes → key_count (format_read f (take at bytes)) ≤ key_count f + at
keys-front f bytes at few = omega (arith, keys-read [] f (take at bytes), length-take-le at bytes few)

-- what counts behind a byte
pub count-stands : (front : List ℕ) (b : ℕ) (old new : KeyCount) → StandsOnLine (length front) old.place → Counts (format_byte front (counted old) b) new
    → StandsOnLine (length front + 1) new.place
count-stands front b old new on counts =
    subst (StandsOnLine (length front + 1)) counts.place (byte-stands front (counted old) b on)

pub count-columns : (front : List ℕ) (b : ℕ) (old new : KeyCount) → Counts (format_byte front (counted old) b) new → new.columns ≤ old.columns + 1
count-columns front b old new counts =
    omega (arith, counts.columns, (Grows-byte front (counted old) b).most, (counted-is old).columns)

-- whether a list has an element behind a place
pub has_some-drop : {A : Type 0} (xs : List A) (at n : ℕ) → n ≡ length xs → nat_lt at n ≡ has_some (drop at xs)
has_some-drop xs at n is = elim (cases_lt at (length xs)) [
  | inl more ↦
      let test : nat_lt at n ≡ true = grind (arith, nat_tests) in
      test ∙ sym (has_some-long (drop at xs) (omega (arith, more, length-drop at xs)))
  | inr past ↦
      let test : nat_lt at n ≡ false = grind (arith, nat_tests) in
      test ∙ sym (has_some-none (drop at xs) (omega (arith, past, length-drop at xs)))
]

-- whether it has one in front of a place that isn't behind its end
pub has_some-take : {A : Type 0} (xs : List A) (n : ℕ) → n ≤ length xs → has_some (take n xs) ≡ nat_lt 0 n
has_some-take [] zero within = let test : nat_lt 0 0 ≡ false = grind (arith, nat_tests) in sym test
has_some-take [] (suc n) within = absurd (omega (arith, within))
has_some-take (x ∷ xs) zero within = refl
has_some-take (x ∷ xs) (suc n) within = let test : nat_lt 0 (suc n) ≡ true = grind (arith, nat_tests) in sym test

-- of a line and its newline nothing is half read
pub line-stands : (f : Format) (line : List ℕ) → StandsOnLine 0 (format_read f (line ++ newline ∷ [])).place
line-stands f line =
    subst (λ (g : Format). StandsOnLine 0 g.place) (sym (read-last f line newline)) (newline-stands line (format_read f line))
