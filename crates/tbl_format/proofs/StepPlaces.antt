-- What every step of a format's reading is, and where the reading stands behind a byte of a line.
use Rattle.std.proofs.Common.{◌≡◌, ℕ, zero, suc, ◌+◌, ◌≤◌, ◌-◌, ◌*◌, max, min, Bool, true, false, List, [], ◌∷◌, ◌++◌, length, drop, Option, None, Some, subst, sym, refl, nat_le, nat_lt, not, ◌&&◌, ◌||◌, codes, arith, length-append, if◌then◌else◌, ◌==◌}
use Rattle.input_source.specs.Bytes.{newline, dot, is_digit}
use Rattle.tbl_format.specs.Format.{Format, asking_for_bars, done, fault_if, format_byte, format_byte_at, has_some, is_misplaced, looked_again, most_bars, read_behind, stepped, with_any_key, with_asked, with_whole}
use Rattle.roff_num.specs.Ranges.{greatest_number}
use Rattle.tbl_format.specs.FormatSteps.{again, among_keys, among_keys_by, among_others, at_closing, behind, between, fault, step, step_of, to, widening, width_of}
use Rattle.tbl_format.specs.KeyCounts.{IsOnLine, StandsOnLine}
use Rattle.tbl_format.specs.Keys.{is_between, is_one_of, key_of, separates_rows}
use Rattle.tbl_options.specs.Options.{closing, opening}
use Rattle.tbl_format.specs.declared.format.FormatPlace.{FormatPlace}
use Rattle.tbl_format.specs.declared.format.FormatPlace.TheVariants.{AtEnd, AtFault, InRows}
use Rattle.tbl_format.specs.declared.format.Key.{Key}
use Rattle.tbl_format.specs.declared.format.RowPart.{RowPart}
use Rattle.tbl_format.specs.declared.format.RowPart.TheVariants.{AtFont, AtKeys, AtMacro, AtSize, AtWidth, BehindFont, BehindKey, BehindMacro, Brackets, InFont, InMacro, Number, Signed, Sized, WidthDigits}
use Rattle.tbl_format.specs.declared.format.Standing.TheVariants.{Bottom, Top}
use Rattle.tbl_format.specs.declared.format_step.Does.{Does}
use Rattle.tbl_format.specs.declared.format_step.Does.TheVariants.{AddBar, AddKey, DropWidth, EndFormat, EndRow, Equalize, LeaveOut, Nothing, Separate, Stand, Widen}
use Rattle.tbl_format.specs.declared.format_step.FormatStep.{FormatStep}

-- what a byte ends that is looked at again is no key
abbrev pub EndsNoKey : Bool → Does → Type 0
EndsNoKey false does = Unit {0}
EndsNoKey true (AddKey key) = ⊥
EndsNoKey true does = Unit {0}

-- what leads behind the end of the format ends it
abbrev pub EndsFormat : FormatPlace → Does → Type 0
EndsFormat AtEnd EndFormat = Unit {0}
EndsFormat AtEnd does = ⊥
EndsFormat place does = Unit {0}

-- a step that stands on the line, of which so many bytes were read
pub record IsStep (len : ℕ) (s : FormatStep) : Type 0 where
  pub stands : StandsOnLine len s.place
  pub ends : EndsNoKey s.is_again s.does
  pub is_end : EndsFormat s.place s.does

module _ (len : ℕ) where
  by-if : (t : Bool) (x y : FormatStep) → IsStep len x → IsStep len y → IsStep len (if t then x else y)
  by-if true x y one other = one
  by-if false x y one other = other

  to-is : (part : RowPart) → IsOnLine len part → IsStep len (to part)
  to-is part on = record { stands = on; ends = tt; is_end = tt }

  behind-is : (does : Does) → IsStep len (behind does)
  behind-is does = record { stands = tt; ends = tt; is_end = tt }

  between-is : (does : Does) → IsStep len (between does)
  between-is does = record { stands = tt; ends = tt; is_end = tt }

  fault-is : IsStep len fault
  fault-is = record { stands = tt; ends = tt; is_end = tt }

  again-number : (n : ℕ) → IsStep len (again (Separate n))
  again-number n = record { stands = tt; ends = tt; is_end = tt }

  again-width : (n : ℕ) → IsStep len (again (Widen n))
  again-width n = record { stands = tt; ends = tt; is_end = tt }

  again-nothing : IsStep len (again Nothing)
  again-nothing = record { stands = tt; ends = tt; is_end = tt }

  others : (b : ℕ) → IsStep len (among_others b)
  others b =
      by-if (is_between b) (between Nothing) _ (between-is Nothing)
      (by-if (separates_rows b) (between EndRow) _ (between-is EndRow)
      (by-if (b == 124) (between AddBar) _ (between-is AddBar)
      (by-if (b == dot) (record { place = AtEnd; does = EndFormat; is_again = false }) fault (record { stands = tt; ends = tt; is_end = tt }) fault-is)))

  keys : (key : Option Key) (b : ℕ) → IsStep len (among_keys_by key b)
  keys (Some key) b = behind-is (AddKey key)
  keys None b = others b

  among : (b : ℕ) → IsStep len (among_keys b)
  among b = keys (key_of b) b

  width : (ending : Does → FormatStep) (asked : Option ℕ) → ((n : ℕ) → IsStep len (ending (Widen n))) → IsStep len (widening ending asked)
  width ending (Some n) is = is n
  width ending None is = fault-is

  closed : (from depth : ℕ) (front : List ℕ) → from + depth ≤ len → IsStep len (at_closing from depth front)
  closed from zero front within = width behind (width_of (drop from front)) (λ n. behind-is (Widen n))
  closed from (suc depth) front within = to-is (Brackets from depth) (omega (arith, within))

  letters : (b : ℕ) → IsStep len (step_of BehindKey [] b)
  letters b =
      by-if (is_digit b) (to (Number (b - 48))) _ (to-is (Number (b - 48)) tt)
      (by-if (is_between b) (behind Nothing) _ (behind-is Nothing)
      (by-if (is_one_of b (codes "w")) (to AtWidth) _ (to-is AtWidth tt)
      (by-if (is_one_of b (codes "e")) (behind Equalize) _ (behind-is Equalize)
      (by-if (is_one_of b (codes "z")) (behind DropWidth) _ (behind-is DropWidth)
      (by-if (is_one_of b (codes "t")) (behind (Stand Top)) _ (behind-is (Stand Top))
      (by-if (is_one_of b (codes "d")) (behind (Stand Bottom)) _ (behind-is (Stand Bottom))
      (by-if (is_one_of b (codes "f")) (to AtFont) _ (to-is AtFont tt)
      (by-if (is_one_of b (codes "pv")) (to AtSize) _ (to-is AtSize tt)
      (by-if (is_one_of b (codes "biu")) (behind Nothing) _ (behind-is Nothing)
      (by-if (is_one_of b (codes "m")) (to (AtMacro b)) _ (to-is (AtMacro b) tt)
      (by-if (is_one_of b (codes "x")) (behind (LeaveOut b)) (among_keys b) (behind-is (LeaveOut b)) (among b))))))))))))

  -- one of two parts, or a fault
  ends-or : (t u : Bool) (x y : FormatStep) → IsStep len x → IsStep len y → IsStep len (if t then fault else if u then x else y)
  ends-or t u x y one other = by-if t fault (if u then x else y) fault-is (by-if u x y one other)

step_of-is : (most : ℕ) (part : RowPart) (front : List ℕ) (b : ℕ) → length front ≤ most → IsOnLine most part → IsStep (most + 1) (step_of part front b)
step_of-is most AtKeys front b few on = among (most + 1) b
step_of-is most BehindKey front b few on = letters (most + 1) b
step_of-is most (Number n) front b few on =
    let len = most + 1 in
    let more = min (n * 10 + (b - 48)) greatest_number in
    by-if len (is_digit b) (to (Number more)) (again (Separate n)) (to-is len (Number more) tt) (again-number len n)
step_of-is most AtWidth front b few on =
    let len = most + 1 in
    by-if len (b == opening) (to (Brackets (length front + 1) 0)) (if is_digit b then to (WidthDigits (length front)) else fault)
    (to-is len (Brackets (length front + 1) 0) (omega (arith, few)))
    (by-if len (is_digit b) (to (WidthDigits (length front))) fault (to-is len (WidthDigits (length front)) (omega (arith, few))) (fault-is len))
step_of-is most (WidthDigits from) front b few on =
    let len = most + 1 in
    by-if len (is_digit b) (to (WidthDigits from)) (widening again (width_of (drop from front)))
    (to-is len (WidthDigits from) (omega (arith, on))) (width len again (width_of (drop from front)) (again-width len))
step_of-is most (Brackets from depth) front b few on =
    let len = most + 1 in
    by-if len (b == newline) fault _ (fault-is len)
    (by-if len (b == opening) (to (Brackets from (depth + 1))) _ (to-is len (Brackets from (depth + 1)) (omega (arith, on)))
    (by-if len (b == closing) (at_closing from depth front) (to (Brackets from depth))
    (closed len from depth front (omega (arith, on))) (to-is len (Brackets from depth) (omega (arith, on)))))
step_of-is most AtFont front b few on =
    let len = most + 1 in
    ends-or len (b == newline) (b == opening) (to InFont) (to BehindFont) (to-is len InFont tt) (to-is len BehindFont tt)
step_of-is most BehindFont front b few on =
    let len = most + 1 in
    by-if len (nat_le 65 b && nat_le b 90) (behind Nothing) (again Nothing) (behind-is len Nothing) (again-nothing len)
step_of-is most InFont front b few on =
    let len = most + 1 in
    ends-or len (b == newline) (b == closing) (behind Nothing) (to InFont) (behind-is len Nothing) (to-is len InFont tt)
step_of-is most (AtMacro letter) front b few on =
    let len = most + 1 in
    ends-or len (b == newline) (b == opening) (to (InMacro letter)) (to (BehindMacro letter)) (to-is len (InMacro letter) tt) (to-is len (BehindMacro letter) tt)
step_of-is most (BehindMacro letter) front b few on =
    let len = most + 1 in
    by-if len (b == newline) fault (behind (LeaveOut letter)) (fault-is len) (behind-is len (LeaveOut letter))
step_of-is most (InMacro letter) front b few on =
    let len = most + 1 in
    ends-or len (b == newline) (b == closing) (behind (LeaveOut letter)) (to (InMacro letter)) (behind-is len (LeaveOut letter)) (to-is len (InMacro letter) tt)
step_of-is most AtSize front b few on =
    let len = most + 1 in
    by-if len (b == 43 || b == 45) (to Signed) (if is_digit b then to Sized else fault) (to-is len Signed tt)
    (by-if len (is_digit b) (to Sized) fault (to-is len Sized tt) (fault-is len))
step_of-is most Signed front b few on =
    let len = most + 1 in by-if len (is_digit b) (to Sized) fault (to-is len Sized tt) (fault-is len)
step_of-is most Sized front b few on =
    let len = most + 1 in by-if len (is_digit b) (to Sized) (again Nothing) (to-is len Sized tt) (again-nothing len)

-- a length of the line on which a part stands
abbrev on_line : RowPart → ℕ
on_line (WidthDigits from) = from
on_line (Brackets from depth) = from + depth
on_line part = 0

on_line-is : (part : RowPart) (more : ℕ) → IsOnLine (on_line part + more) part
on_line-is AtKeys more = tt
on_line-is BehindKey more = tt
on_line-is (Number n) more = tt
on_line-is AtWidth more = tt
on_line-is (WidthDigits from) more = omega arith
on_line-is (Brackets from depth) more = omega arith
on_line-is AtFont more = tt
on_line-is BehindFont more = tt
on_line-is InFont more = tt
on_line-is (AtMacro letter) more = tt
on_line-is (BehindMacro letter) more = tt
on_line-is (InMacro letter) more = tt
on_line-is AtSize more = tt
on_line-is Signed more = tt
on_line-is Sized more = tt

step-within : (most : ℕ) (part : RowPart) (front : List ℕ) (b : ℕ) → length front ≤ most → IsOnLine most part → IsStep (most + 1) (step part front b)
unfolding step
step-within most part front b few on = step_of-is most part front b few on

pub step-is : (part : RowPart) (front : List ℕ) (b : ℕ) → IsOnLine (length front) part → IsStep (length front + 1) (step part front b)
step-is part front b on = step-within (length front) part front b (omega arith) on

pub step-ends : (part : RowPart) (front : List ℕ) (b : ℕ) → EndsNoKey (step part front b).is_again (step part front b).does
step-ends part front b =
    (step-within (on_line part + length front) part front b (omega arith) (on_line-is part (length front))).ends

pub step-end : (part : RowPart) (front : List ℕ) (b : ℕ) → EndsFormat (step part front b).place (step part front b).does
step-end part front b =
    (step-within (on_line part + length front) part front b (omega arith) (on_line-is part (length front))).is_end

-- what a byte does leaves it there, or at a fault
module _ (At : FormatPlace → Type 0) (fault : At AtFault) where
  fault-keeps : (t : Bool) (f : Format) → At f.place → At (fault_if t f).place
  fault-keeps true f stands = fault
  fault-keeps false f stands = stands

  asking-keeps : (t : Bool) (f : Format) → At f.place → At (if t then with_asked (most_bars f.bars) f else record f { front = max f.front f.bars }).place
  asking-keeps true f stands = stands
  asking-keeps false f stands = stands

  bar-keeps : (t : Bool) (f : Format) → At f.place → At (if t then asking_for_bars (record f { bars = f.bars + 1 }) else record f { place = AtFault }).place
  bar-keeps true f stands = asking-keeps (has_some f.row) (record f { bars = f.bars + 1 }) stands
  bar-keeps false f stands = fault

  whole-keeps : (t u : Bool) (f g : Format) → At f.place → At g.place → At (if t then g else fault_if u f).place
  whole-keeps true u f g stands other = other
  whole-keeps false u f g stands other = fault-keeps u f stands

  row-keeps : (f : Format) → At f.place → At (with_whole f).place
  row-keeps f stands =
      whole-keeps (has_some f.row) (nat_lt 0 f.bars) f (record f { rows = f.rows ++ record { keys = f.row; bars = f.bars } ∷ []; row = []; bars = 0 }) stands stands

  pub done-keeps : (does : Does) (f : Format) → At f.place → At (done does f).place
  done-keeps Nothing f stands = stands
  done-keeps (AddKey key) f stands = fault-keeps (is_misplaced key f) (with_any_key key f) stands
  done-keeps AddBar f stands = bar-keeps (nat_lt f.bars 2) f stands
  done-keeps (Separate n) f stands = stands
  done-keeps (Widen n) f stands = stands
  done-keeps Equalize f stands = stands
  done-keeps DropWidth f stands = stands
  done-keeps (Stand standing) f stands = stands
  done-keeps (LeaveOut letter) f stands = stands
  done-keeps EndRow f stands = row-keeps f stands
  done-keeps EndFormat f stands = fault-keeps (not (has_some (with_whole f).rows)) (with_whole f) (row-keeps f stands)

module _ (len : ℕ) where
  done-stands : (does : Does) (f : Format) → StandsOnLine len f.place → StandsOnLine len (done does f).place
  done-stands does f stands = done-keeps (StandsOnLine len) tt does f stands

  again-stands : (t : Bool) (front : List ℕ) (b : ℕ) (f : Format) → len ≡ length front + 1 → StandsOnLine len f.place → StandsOnLine len (looked_again t front b f).place
  again-stands false front b f is stands = stands
  again-stands true front b f is stands =
      let behind = subst (λ (n : ℕ). IsStep n (step BehindKey front b)) (sym is) (step-is BehindKey front b tt) in
      done-stands (step BehindKey front b).does (record f { place = (step BehindKey front b).place }) behind.stands

byte_at-stands : (place : FormatPlace) (front : List ℕ) (f : Format) (b : ℕ) → place ≡ f.place → StandsOnLine (length front) place
    → StandsOnLine (length front + 1) (format_byte_at place front f b).place
byte_at-stands (InRows part) front f b same on =
    let s = step part front b in
    again-stands (length front + 1) s.is_again front b (stepped s f) refl
    (done-stands (length front + 1) s.does (record f { place = s.place }) (step-is part front b on).stands)
byte_at-stands AtEnd front f b same on = subst (StandsOnLine (length front + 1)) same tt
byte_at-stands AtFault front f b same on = subst (StandsOnLine (length front + 1)) same tt

pub byte-stands : (front : List ℕ) (f : Format) (b : ℕ) → StandsOnLine (length front) f.place → StandsOnLine (length front + 1) (format_byte front f b).place
byte-stands front f b on = byte_at-stands f.place front f b refl on

pub read-stands : (front : List ℕ) (f : Format) (bytes : List ℕ) → StandsOnLine (length front) f.place
    → StandsOnLine (length front + length bytes) (read_behind front f bytes).place
read-stands front f [] on = let same : length front ≡ length front + 0 = omega arith in subst (λ (n : ℕ). StandsOnLine n f.place) same on
read-stands front f (b ∷ bytes) on =
    let longer = length-append front (b ∷ []) in
    let place = (format_byte front f b).place in
    let here = subst (λ (n : ℕ). StandsOnLine n place) (sym longer) (byte-stands front f b on) in
    let same : length (front ++ b ∷ []) + length bytes ≡ length front + suc (length bytes) = omega (arith, longer) in
    subst (λ (n : ℕ). StandsOnLine n (read_behind (front ++ b ∷ []) (format_byte front f b) bytes).place) same
    (read-stands (front ++ b ∷ []) (format_byte front f b) bytes here)

-- behind a newline nothing is half read
newline-step : (part : RowPart) (front : List ℕ) → StandsOnLine 0 (step part front newline).place
unfolding step
newline-step AtKeys front = tt
newline-step BehindKey front = tt
newline-step (Number n) front = tt
newline-step AtWidth front = tt
newline-step (WidthDigits from) front = (width 0 again (width_of (drop from front)) (again-width 0)).stands
newline-step (Brackets from depth) front = tt
newline-step AtFont front = tt
newline-step BehindFont front = tt
newline-step InFont front = tt
newline-step (AtMacro letter) front = tt
newline-step (BehindMacro letter) front = tt
newline-step (InMacro letter) front = tt
newline-step AtSize front = tt
newline-step Signed front = tt
newline-step Sized front = tt

newline-again : (t : Bool) (front : List ℕ) (f : Format) → StandsOnLine 0 f.place → StandsOnLine 0 (looked_again t front newline f).place
newline-again false front f stands = stands
newline-again true front f stands =
    let s = step BehindKey front newline in
    done-stands 0 s.does (record f { place = s.place }) (newline-step BehindKey front)

newline-at : (place : FormatPlace) (front : List ℕ) (f : Format) → place ≡ f.place → StandsOnLine 0 (format_byte_at place front f newline).place
newline-at (InRows part) front f same =
    let s = step part front newline in
    newline-again s.is_again front (stepped s f) (done-stands 0 s.does (record f { place = s.place }) (newline-step part front))
newline-at AtEnd front f same = subst (StandsOnLine 0) same tt
newline-at AtFault front f same = subst (StandsOnLine 0) same tt

pub newline-stands : (front : List ℕ) (f : Format) → StandsOnLine 0 (format_byte front f newline).place
newline-stands front f = newline-at f.place front f refl

-- what stands on a line stands on a longer one
part-longer : (part : RowPart) (len more : ℕ) → len ≤ more → IsOnLine len part → IsOnLine more part
part-longer AtKeys len more le on = tt
part-longer BehindKey len more le on = tt
part-longer (Number n) len more le on = tt
part-longer AtWidth len more le on = tt
part-longer (WidthDigits from) len more le on = omega (arith, le, on)
part-longer (Brackets from depth) len more le on = omega (arith, le, on)
part-longer AtFont len more le on = tt
part-longer BehindFont len more le on = tt
part-longer InFont len more le on = tt
part-longer (AtMacro letter) len more le on = tt
part-longer (BehindMacro letter) len more le on = tt
part-longer (InMacro letter) len more le on = tt
part-longer AtSize len more le on = tt
part-longer Signed len more le on = tt
part-longer Sized len more le on = tt

pub stands-longer : (place : FormatPlace) (len more : ℕ) → len ≤ more → StandsOnLine len place → StandsOnLine more place
stands-longer (InRows part) len more le on = part-longer part len more le on
stands-longer AtEnd len more le on = tt
stands-longer AtFault len more le on = tt
