-- Tables are the same whatever the limit on messages is: whoever tells them keeps it.
use Rattle.std.proofs.Common.{◌≡◌, ◌∙◌, ◌+◌, ◌==◌, not, ℕ, Bool, true, false, List, [], ◌∷◌, ◌++◌, ◌&&◌, Option, Some, None, ap, if◌then◌else◌, length, map, nat_le, nat_lt, refl}
use Rattle.roff_num.specs.declared.limit.Limit.{Limit}
use Rattle.roff_num.specs.declared.limit.Limit.TheVariants.{Rows, Columns, Text, Width}
use Rattle.input_source.specs.Bytes.{newline}
use Rattle.input_source.specs.Tape.{Item, OneByte, OneNote, Ending, Ended, Failed, Stopped}
use Rattle.tbl_options.specs.Messages.{told_items}
use Rattle.tbl_format.specs.declared.limits.TblLimits.{TblLimits}
use Rattle.tbl_options.specs.declared.message.Told.{Told}
use Rattle.tbl_core.specs.Lines.{counted, end_letter, ends_name, front_behind, is_name, is_of_name, start_letter}
use Rattle.tbl_core.specs.Machine.{Inside, Now, Outside, Over, Place, Reads, RestOfStart, Standing, Step, end_at, goes_on_inside, inside_ended, limit_inside, own_told, passes_table, standing_behind, table_ended, take, take_at}
use Rattle.tbl_core.specs.Stages.{Stage, answered, answered_by, ending_answered}
use Rattle.tbl_core.specs.Yields.{at_ending}
use Rattle.tbl_core.specs.declared.place.Count.{Count}
use Rattle.tbl_core.specs.declared.place.Front.{Front}
use Rattle.tbl_core.specs.declared.place.Front.TheVariants.{Nothing}
use Rattle.tbl_table.specs.Reading.{Reading, byte_read, bytes_read, given_at_end, limit_at_end, told_at_end}
use Rattle.tbl_table.specs.Table.{TableRead, closed, columns_at, rows, rows_behind, told_at_cut, width}

module _ (l : TblLimits) (messages : ℕ) where
  -- the limits, with this one on messages
  abbrev other : TblLimits
  other = record l { messages = messages }

  -- what a limit tells is the same
  abbrev IsToldSame : Option Limit → Type 0
  IsToldSame limit = (line : ℕ) → own_told other line limit ≡ own_told l line limit

  first_of_three : (x y z : Bool) → IsToldSame (if x then Some Rows else if y then Some Columns else if z then Some Text else None)
  first_of_three true y z line = refl
  first_of_three false true z line = refl
  first_of_three false false true line = refl
  first_of_three false false false line = refl

  inside_told : (b : ℕ) (front : Front) (r : Reading) → IsToldSame (limit_inside l b front r)
  inside_told b front r =
      first_of_three (b == newline && nat_lt l.rows (rows_behind r.table r.line)) (nat_lt l.columns (columns_at r.table (r.line ++ b ∷ [])))
      (not (is_of_name (front_behind end_letter front b)) && nat_lt l.text (length (bytes_read r) + 1))

  first_of_two : (x y : Bool) → IsToldSame (if x then Some Rows else if y then Some Width else None)
  first_of_two true y line = refl
  first_of_two false true line = refl
  first_of_two false false line = refl

  end_told : (line_length : ℕ) (t : TableRead) → IsToldSame (limit_at_end l line_length t)
  end_told line_length t = first_of_two (nat_lt l.rows (rows (closed t))) (nat_lt l.width (width line_length (closed t)))

  -- and so is each step
  table_same : (line_length : ℕ) (count : Count) (r : Reading) (front : Front)
      → table_ended other line_length count r front ≡ table_ended l line_length count r front
  table_same line_length count r front =
      ap (λ (own : List Told). record {
        out = told_items (told_at_end l count.line line_length r.table) ++ told_items own ++ map OneByte (given_at_end l count.line line_length r);
        behind = standing_behind (limit_at_end l line_length r.table) (record { count = count; place = Outside front });
      }) (end_told line_length r.table count.line)

  inside_same : (limit : Option Limit) (b : ℕ) (count : Count) (front : Front) (r : Reading) → IsToldSame limit
      → goes_on_inside limit other b count front r ≡ goes_on_inside limit l b count front r
  inside_same None b count front r same = refl
  inside_same (Some limit) b count front r same =
      ap (λ (own : List Told). record { out = told_items (told_at_cut r.table) ++ told_items own; behind = Over limit count.line }) (same count.line)

  both_if : (t : Bool) (a b c d : Step) → a ≡ b → c ≡ d → (if t then a else c) ≡ (if t then b else d)
  both_if true a b c d first second = first
  both_if false a b c d first second = second

  take_at_same : (line_length b : ℕ) (count : Count) (place : Place) → take_at other line_length b count place ≡ take_at l line_length b count place
  take_at_same line_length b count (Outside front) = refl
  take_at_same line_length b count RestOfStart = refl
  take_at_same line_length b count (Inside front r) =
      both_if (is_name front && ends_name b) _ _ _ _ (table_same line_length count (byte_read b r) (front_behind start_letter front b))
      (inside_same (limit_inside l b front r) b count front r (inside_told b front r))

  take_same : (line_length b : ℕ) (now : Now) → take other line_length b now ≡ take l line_length b now
  take_same line_length b now =
      both_if (nat_le l.bytes now.count.taken) _ _ _ _ refl (take_at_same line_length b (counted b now.count) now.place)

  passes_same : (t : Bool) (count : Count) (r : Reading) → passes_table t other count r ≡ passes_table t l count r
  passes_same true count r = refl
  passes_same false count r = refl

  inside_ended_same : (name : Bool) (line_length : ℕ) (count : Count) (r : Reading)
      → inside_ended name other line_length count r ≡ inside_ended name l line_length count r
  inside_ended_same true line_length count r = table_same line_length count r Nothing
  inside_ended_same false line_length count r = passes_same (nat_lt l.text (length (bytes_read r))) count r

  end_same : (line_length : ℕ) (count : Count) (place : Place) → end_at other line_length count place ≡ end_at l line_length count place
  end_same line_length count (Outside front) = refl
  end_same line_length count RestOfStart = refl
  end_same line_length count (Inside front r) = inside_ended_same (is_name front) line_length count r

  ending_same : (line_length : ℕ) (e : Ending) (now : Now) → at_ending other line_length e now ≡ at_ending l line_length e now
  ending_same line_length Ended now = end_same line_length now.count now.place
  ending_same line_length Failed now = refl
  ending_same line_length (Stopped limit) now = refl

  by_same : (line_length : ℕ) (s : Standing) (pending items : List Item) (e : Ending)
      → answered_by other line_length s pending items e ≡ answered_by l line_length s pending items e
  by_same line_length s (item ∷ pending) items e = refl
  by_same line_length (Over limit line) [] items e = refl
  by_same line_length (Reads now) [] [] e = ap (λ (step : Step). ending_answered e step.behind step.out) (ending_same line_length e now)
  by_same line_length (Reads now) [] (OneByte b ∷ items) e =
      by_same line_length (take other line_length b now).behind (take other line_length b now).out items e
      ∙ ap (λ (step : Step). answered_by l line_length step.behind step.out items e) (take_same line_length b now)
  by_same line_length (Reads now) [] (OneNote message ∷ items) e = by_same line_length (Reads now) [] items e

  pub answered_same : (line_length : ℕ) (s : Stage) → answered other line_length s ≡ answered l line_length s
  answered_same line_length s = by_same line_length s.at.standing s.at.pending s.tape.items s.tape.ending
