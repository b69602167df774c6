-- Formats as they are read further: rows that are whole stay, and one that has ended has a row.
use Rattle.std.proofs.Common.{◌≡◌, ℕ, zero, suc, ◌+◌, ◌<◌, ◌≤◌, max, Bool, true, false, not, List, [], ◌∷◌, ◌++◌, length, refl, sym, ap, ◌∙◌, arith, append-nil, append_assoc, length-append, nat_lt, if◌then◌else◌}
use Rattle.tbl_format.specs.Format.{Format, FormatRow, asking_for_bars, at_fault, asked_by, columns_of_keys, done, fault_if, format_byte, format_byte_at, format_read, has_some, is_misplaced, last_changed, looked_again, most_bars, read_behind, said_by, stepped, with_any_key, with_asked, with_columns, with_last, with_whole}
use Rattle.tbl_format.specs.FormatRows.{keys_of}
use Rattle.tbl_format.specs.FormatSteps.{step}
use Rattle.tbl_format.specs.declared.format.Asked.{Asked}
use Rattle.tbl_format.specs.declared.format.FormatKey.{FormatKey}
use Rattle.tbl_format.specs.declared.format.FormatPlace.{FormatPlace}
use Rattle.tbl_format.specs.declared.format.FormatPlace.TheVariants.{AtEnd, AtFault, InRows}
use Rattle.tbl_format.specs.declared.format.RowPart.TheVariants.{BehindKey}
use Rattle.tbl_format.specs.declared.format_step.Does.{Does}
use Rattle.tbl_format.specs.declared.format_step.Does.TheVariants.{AddBar, AddKey, DropWidth, EndFormat, EndRow, Equalize, LeaveOut, Nothing, Separate, Stand, Widen}
use Rattle.tbl_format.proofs.FormatReading.{keys_of-append}
use Rattle.tbl_format.proofs.KeyCounting.{length-asking}
use Rattle.tbl_format.proofs.StepPlaces.{EndsFormat, done-keeps, step-end}
use Rattle.tbl_table.specs.Kept.{EndFits, HasColumns, HasKeys, IsWhole}

-- it has rows more, each of which has a key
pub record Extends (f g : Format) : Type 0 where
  pub more : List FormatRow
  pub earlier : g.earlier ≡ f.earlier
  pub rows : g.rows ≡ f.rows ++ more
  pub keyed : length more ≤ keys_of more
  pub wide : HasColumns f → HasColumns g

same-rows : (f g : Format) → g.earlier ≡ f.earlier → g.rows ≡ f.rows → (HasColumns f → HasColumns g) → Extends f g
same-rows f g earlier rows wide = record { more = []; earlier = earlier; rows = rows ∙ sym (append-nil f.rows); keyed = omega arith; wide = wide }

-- columns stay, and a key more has one
some-columns : (asked : List Asked) (count : ℕ) → 0 < length (with_columns asked count)
some-columns [] count = omega arith
some-columns (a ∷ asked) zero = omega arith
some-columns (a ∷ asked) (suc count) = omega arith

length-last : (change : FormatKey → FormatKey) (row : List FormatKey) → length (last_changed change row) ≡ length row
length-last change [] = refl
length-last change (key ∷ []) = refl
length-last change (key ∷ next ∷ row) = ap (λ (n : ℕ). suc n) (length-last change (next ∷ row))

asked-wide : (change : Asked → Asked) (f : Format) → HasColumns f → HasColumns (with_asked change f)
asked-wide change f wide some = omega (arith, wide some, length-asking change (columns_of_keys f.row) f.asked)

last-wide : (change : FormatKey → FormatKey) (f : Format) → HasColumns f → HasColumns (with_last change f)
last-wide change f wide some = wide (omega (arith, some, length-last change f.row))

Extends-behind : (f g h : Format) → Extends f g → Extends g h → Extends f h
Extends-behind f g h first second = record {
  more = first.more ++ second.more;
  earlier = second.earlier ∙ first.earlier;
  rows = second.rows ∙ ap (λ (rows : List FormatRow). rows ++ second.more) first.rows ∙ append_assoc f.rows first.more second.more;
  keyed = omega (arith, first.keyed, second.keyed, length-append first.more second.more, keys_of-append first.more second.more);
  wide = λ wide. second.wide (first.wide wide);
}

Extends-fault : (t : Bool) (f g : Format) → Extends f g → Extends f (fault_if t g)
Extends-fault true f g is = record { more = is.more; earlier = is.earlier; rows = is.rows; keyed = is.keyed; wide = is.wide }
Extends-fault false f g is = is

some-long : {A : Type 0} (xs : List A) → has_some xs ≡ true → 0 < length xs
some-long [] is = absurd (cc)
some-long (x ∷ xs) is = omega arith

Extends-whole : (t u : Bool) (f : Format) → has_some f.row ≡ t
    → Extends f (if t then record f { rows = f.rows ++ record { keys = f.row; bars = f.bars } ∷ []; row = []; bars = 0 } else fault_if u f)
Extends-whole true u f is = record {
  more = record { keys = f.row; bars = f.bars } ∷ [];
  earlier = refl;
  rows = refl;
  keyed = omega (arith, some-long f.row is);
  wide = λ wide some. wide (omega (arith, some-long f.row is));
}
Extends-whole false u f is = Extends-fault u f f (same-rows f f refl refl (λ wide. wide))

Extends-asking : (t : Bool) (f : Format) → Extends f (if t then with_asked (most_bars f.bars) f else record f { front = max f.front f.bars })
Extends-asking true f = same-rows f (with_asked (most_bars f.bars) f) refl refl (asked-wide (most_bars f.bars) f)
Extends-asking false f = same-rows f (record f { front = max f.front f.bars }) refl refl (λ wide. wide)

Extends-bar : (t : Bool) (f : Format) → Extends f (if t then asking_for_bars (record f { bars = f.bars + 1 }) else at_fault f)
Extends-bar true f =
    let is = Extends-asking (has_some f.row) (record f { bars = f.bars + 1 }) in
    record { more = is.more; earlier = is.earlier; rows = is.rows; keyed = is.keyed; wide = is.wide }
Extends-bar false f = same-rows f (at_fault f) refl refl (λ wide. wide)

Extends-done : (does : Does) (f : Format) → Extends f (done does f)
Extends-done Nothing f = same-rows f f refl refl (λ wide. wide)
Extends-done (AddKey key) f = Extends-fault (is_misplaced key f) f (with_any_key key f) (same-rows f (with_any_key key f) refl refl (λ wide some. some-columns f.asked (columns_of_keys f.row)))
Extends-done AddBar f = Extends-bar (nat_lt f.bars 2) f
Extends-done (Separate n) f = same-rows f (done (Separate n) f) refl refl (asked-wide (asked_by (Separate n)) f)
Extends-done (Widen n) f = same-rows f (done (Widen n) f) refl refl (asked-wide (asked_by (Widen n)) f)
Extends-done Equalize f = same-rows f (done Equalize f) refl refl (asked-wide (asked_by Equalize) f)
Extends-done DropWidth f = same-rows f (done DropWidth f) refl refl (last-wide (said_by DropWidth) f)
Extends-done (Stand standing) f = same-rows f (done (Stand standing) f) refl refl (last-wide (said_by (Stand standing)) f)
Extends-done (LeaveOut letter) f = same-rows f f refl refl (λ wide. wide)
Extends-done EndRow f = Extends-whole (has_some f.row) (nat_lt 0 f.bars) f refl
Extends-done EndFormat f =
    Extends-fault (not (has_some (with_whole f).rows)) f (with_whole f) (Extends-whole (has_some f.row) (nat_lt 0 f.bars) f refl)

Extends-placed : (place : FormatPlace) (f g : Format) → Extends (record f { place = place }) g → Extends f g
Extends-placed place f g is = record { more = is.more; earlier = is.earlier; rows = is.rows; keyed = is.keyed; wide = is.wide }

Extends-again : (t : Bool) (front : List ℕ) (b : ℕ) (f : Format) → Extends f (looked_again t front b f)
Extends-again false front b f = same-rows f f refl refl (λ wide. wide)
Extends-again true front b f =
    let s = step BehindKey front b in
    Extends-placed s.place f (stepped s f) (Extends-done s.does (record f { place = s.place }))

Extends-at : (place : FormatPlace) (front : List ℕ) (f : Format) (b : ℕ) → Extends f (format_byte_at place front f b)
Extends-at (InRows part) front f b =
    let s = step part front b in
    Extends-behind f (stepped s f) (looked_again s.is_again front b (stepped s f))
    (Extends-placed s.place f (stepped s f) (Extends-done s.does (record f { place = s.place }))) (Extends-again s.is_again front b (stepped s f))
Extends-at AtEnd front f b = same-rows f f refl refl (λ wide. wide)
Extends-at AtFault front f b = same-rows f f refl refl (λ wide. wide)

Extends-read : (front : List ℕ) (f : Format) (bytes : List ℕ) → Extends f (read_behind front f bytes)
Extends-read front f [] = same-rows f f refl refl (λ wide. wide)
Extends-read front f (b ∷ bytes) =
    Extends-behind f (format_byte front f b) (read_behind (front ++ b ∷ []) (format_byte front f b) bytes) (Extends-at f.place front f b)
    (Extends-read (front ++ b ∷ []) (format_byte front f b) bytes)

pub format-extends : (f : Format) (bytes : List ℕ) → Extends f (format_read f bytes)
format-extends f bytes = Extends-read [] f bytes

-- its rows are no more than their keys
rows-few : (f g : Format) → Extends f g → length f.earlier + length f.rows ≤ keys_of f.earlier + keys_of f.rows
    → length g.earlier + length g.rows ≤ keys_of g.earlier + keys_of g.rows
rows-few f g is few =
    omega (
      arith,
      few,
      ap (λ (rows : List FormatRow). length rows) is.earlier,
      ap keys_of is.earlier,
      ap (λ (rows : List FormatRow). length rows) is.rows,
      ap keys_of is.rows,
      length-append f.rows is.more,
      keys_of-append f.rows is.more,
      is.keyed,
    )

pub rows-keyed : (f g : Format) → Extends f g → HasKeys f → HasKeys g
rows-keyed f g is has = record { few = rows-few f g is has.few; wide = is.wide has.wide }

-- one that has ended has a row
abbrev Ended : Format → Type 0
Ended f = EndFits f.place f

-- it hasn't ended
abbrev IsOpen : FormatPlace → Type 0
IsOpen (InRows part) = Unit {0}
IsOpen AtEnd = ⊥
IsOpen AtFault = Unit {0}

open-ended : (place : FormatPlace) (f : Format) → IsOpen place → EndFits place f
open-ended (InRows part) f is = tt
open-ended AtEnd f is = absurd is
open-ended AtFault f is = tt

any-whole : (place : FormatPlace) (f : Format) → IsWhole f → EndFits place f
any-whole (InRows part) f is = tt
any-whole AtEnd f is = is
any-whole AtFault f is = tt

no-key : (row : List FormatKey) → has_some row ≡ false → row ≡ []
no-key [] is = refl
no-key (key ∷ row) is = absurd (cc)

fault-row : (u : Bool) (f : Format) → (fault_if u f).row ≡ f.row
fault-row true f = refl
fault-row false f = refl

whole-row : (t u : Bool) (f : Format) → has_some f.row ≡ t
    → (if t then record f { rows = f.rows ++ record { keys = f.row; bars = f.bars } ∷ []; row = []; bars = 0 } else fault_if u f).row ≡ []
whole-row true u f is = refl
whole-row false u f is = fault-row u f ∙ no-key f.row is

ended-end : (t : Bool) (f : Format) → has_some f.rows ≡ t → f.row ≡ [] → Ended (fault_if (not t) f)
ended-end true f is none = any-whole f.place f (record { some = some-long f.rows is; none = none })
ended-end false f is none = tt

-- behind what a byte does
ended-open : (does : Does) (f : Format) → IsOpen f.place → Ended (done does f)
ended-open does f is = open-ended (done does f).place (done does f) (done-keeps IsOpen tt does f is)

ended-done : (place : FormatPlace) (does : Does) (f : Format) → EndsFormat place does → Ended (done does (record f { place = place }))
ended-done (InRows part) does f ends = ended-open does (record f { place = InRows part }) tt
ended-done AtEnd Nothing f ends = absurd ends
ended-done AtEnd (AddKey key) f ends = absurd ends
ended-done AtEnd AddBar f ends = absurd ends
ended-done AtEnd (Separate n) f ends = absurd ends
ended-done AtEnd (Widen n) f ends = absurd ends
ended-done AtEnd Equalize f ends = absurd ends
ended-done AtEnd DropWidth f ends = absurd ends
ended-done AtEnd (Stand standing) f ends = absurd ends
ended-done AtEnd (LeaveOut letter) f ends = absurd ends
ended-done AtEnd EndRow f ends = absurd ends
ended-done AtEnd EndFormat f ends =
    let whole = with_whole (record f { place = AtEnd }) in
    ended-end (has_some whole.rows) whole refl (whole-row (has_some f.row) (nat_lt 0 f.bars) (record f { place = AtEnd }) refl)
ended-done AtFault does f ends = ended-open does (record f { place = AtFault }) tt

ended-again : (t : Bool) (front : List ℕ) (b : ℕ) (f : Format) → Ended f → Ended (looked_again t front b f)
ended-again false front b f has = has
ended-again true front b f has =
    let s = step BehindKey front b in ended-done s.place s.does f (step-end BehindKey front b)

ended-at : (p : FormatPlace) (front : List ℕ) (f : Format) (b : ℕ) → Ended f → Ended (format_byte_at p front f b)
ended-at (InRows part) front f b has =
    let s = step part front b in
    ended-again s.is_again front b (stepped s f) (ended-done s.place s.does f (step-end part front b))
ended-at AtEnd front f b has = has
ended-at AtFault front f b has = has

ended-behind : (front : List ℕ) (f : Format) (bytes : List ℕ) → Ended f → Ended (read_behind front f bytes)
ended-behind front f [] has = has
ended-behind front f (b ∷ bytes) has = ended-behind (front ++ b ∷ []) (format_byte front f b) bytes (ended-at f.place front f b has)

pub format-ended : (f : Format) (bytes : List ℕ) → EndFits f.place f → EndFits (format_read f bytes).place (format_read f bytes)
format-ended f bytes has = ended-behind [] f bytes has
