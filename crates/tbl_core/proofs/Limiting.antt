-- What is given within smaller limits.
use Rattle.std.proofs.Common.{nat_le, nat_lt, length, if◌then◌else◌, refl, sym, ap, ◌∙◌, arith, append_assoc, append-nil, ◌≡◌, ℕ, ◌≤◌, List, [], ◌∷◌, ◌++◌, Bool, true, false, not, ◌==◌, ◌&&◌, Option, Some, None, map}
use Rattle.std.proofs.lemmas.Bool.Decides.{nat_tests}
use Rattle.roff_num.specs.declared.limit.Limit.{Limit}
use Rattle.roff_num.specs.declared.limit.Limit.TheVariants.{Rows, Columns, Text, TblBytes, Width}
use Rattle.input_source.specs.Bytes.{newline}
use Rattle.input_source.specs.Tape.{Item, OneByte, OneNote, Ending, Ended, Failed, Stopped, Tape, items_then}
use Rattle.tbl_format.specs.declared.limits.TblLimits.{TblLimits}
use Rattle.tbl_options.specs.declared.message.Told.{Told}
use Rattle.tbl_options.specs.Messages.{told_item, told_items}
use Rattle.tbl_core.specs.declared.place.Count.{Count}
use Rattle.tbl_core.specs.declared.place.Front.{Front}
use Rattle.tbl_core.specs.declared.place.Front.TheVariants.{Nothing}
use Rattle.tbl_core.specs.Laws.{AreNoGreater, IsCutByLimit, LimitMet, LimitsOnlyCut, NoneMet}
use Rattle.tbl_table.specs.NotesStay.{Begins}
use Rattle.tbl_core.specs.Lines.{counted, end_letter, ends_name, front_behind, is_name, is_of_name, start_letter}
use Rattle.tbl_core.specs.Machine.{Now, Place, Outside, RestOfStart, Inside, Standing, Reads, Over, Step, end_at, goes_on_inside, inside_ended, limit_inside, limit_told, own_told, passes_table, standing_behind, stops, take, take_at, table_ended, told_so_far}
use Rattle.tbl_core.specs.Yields.{at_ending, ended_by, yields_from}
use Rattle.tbl_core.proofs.Cutting.{begins_both, begins_more, begins_told, messages_first}
use Rattle.tbl_table.proofs.NotesStaying.{begins_same, behind_closed}
use Rattle.tbl_table.specs.Reading.{Reading, byte_read, bytes_read, given_behind, limit_at_end, told_behind}
use Rattle.tbl_table.specs.Table.{TableRead, closed, columns_at, notes, rows, rows_behind, told_at_cut, width}

-- a comparison with a smaller limit that fails does with the larger
lt_stays : (a b n : ℕ) → a ≤ b → nat_lt a n ≡ false → nat_lt b n ≡ false
lt_stays a b n less not = grind (arith, nat_tests, less, not)

le_stays : (a b n : ℕ) → a ≤ b → nat_le a n ≡ false → nat_le b n ≡ false
le_stays a b n less not = grind (arith, nat_tests, less, not)

and_stays : (t a b : Bool) → (a ≡ false → b ≡ false) → (t && a) ≡ false → (t && b) ≡ false
and_stays true a b stays not = stays not
and_stays false a b stays not = refl

-- no limit is met in order, nor then of the larger ones
first_none : (a b : Bool) (x : Limit) (o p : Option Limit) → (a ≡ false → b ≡ false) → (o ≡ None → p ≡ None)
    → (if a then Some x else o) ≡ None → (if b then Some x else p) ≡ None
first_none true b x o p stays others none = cc
first_none false b x o p stays others none = rw (stays refl) (others none)

module _ (small large : TblLimits) (less : AreNoGreater small large) where
  inside_none : (b : ℕ) (front : Front) (r : Reading) → limit_inside small b front r ≡ None → limit_inside large b front r ≡ None
  inside_none b front r none =
      first_none _ _ Rows _ _
      (and_stays (b == newline) _ _ (lt_stays small.rows large.rows (rows_behind r.table r.line) less.rows))
      (first_none _ _ Columns _ _ (lt_stays small.columns large.columns (columns_at r.table (r.line ++ b ∷ [])) less.columns)
      (first_none _ _ Text None None
      (and_stays (not (is_of_name (front_behind end_letter front b))) _ _ (lt_stays small.text large.text _ less.text)) (λ is. is)))
      none

  end_none : (line_length : ℕ) (t : TableRead) → limit_at_end small line_length t ≡ None → limit_at_end large line_length t ≡ None
  end_none line_length t none =
      first_none _ _ Rows _ _ (lt_stays small.rows large.rows (rows (closed t)) less.rows)
      (first_none _ _ Width None None (lt_stays small.width large.width (width line_length (closed t)) less.width) (λ is. is))
      none

-- a step within the smaller limits, beside the same within the larger: they are the same, or the first one's limit stops the
-- run behind the messages so far, or behind the first ones of the other step
data IsStopped (small : TblLimits) (so_far : List Told) (cut whole : Step) : Type 0 where
  SameStep : (is : cut ≡ whole) → IsStopped small so_far cut whole
  StopsHere : (limit : Limit) (line : ℕ) (is : cut ≡ stops small limit line so_far) → IsStopped small so_far cut whole
  StopsAtEnd : (limit : Limit) (line : ℕ) (told : List Told) (is : cut ≡ stops small limit line told)
      (begins : Begins (told_items told) whole.out)
      → IsStopped small so_far cut whole

-- behind the message of a limit nothing comes
nothing_behind : (l : TblLimits) (limit : Limit) (line : ℕ) (first : List Item)
    → (first ++ told_item (limit_told l limit line) ∷ []) ++ [] ≡ first ++ told_item (limit_told l limit line) ∷ []
nothing_behind l limit line first = append-nil (first ++ told_item (limit_told l limit line) ∷ [])

-- a table that ends, by the limit that is met there
abbrev ended_with : TblLimits → Option Limit → ℕ → Count → Reading → Front → Step
ended_with l limit line_length count r front = record {
  out = told_items (told_behind limit count.line line_length r.table) ++ told_items (own_told l count.line limit)
      ++ map OneByte (given_behind limit count.line line_length r);
  behind = standing_behind limit (record { count = count; place = Outside front });
}

told_first : (limit : Option Limit) (line line_length : ℕ) (t : TableRead)
    → Begins (notes (closed t)) (told_behind limit line line_length t)
told_first None line line_length t = behind_closed line line_length t
told_first (Some limit) line line_length t = begins_same (notes (closed t))

module _ (small large : TblLimits) (less : AreNoGreater small large) where
  ended_by_limit : (line_length : ℕ) (count : Count) (r : Reading) (front : Front) (so_far : List Told) (met other : Option Limit)
      → (met ≡ None → other ≡ None)
      → IsStopped small so_far (ended_with small met line_length count r front) (ended_with large other line_length count r front)
  ended_by_limit line_length count r front so_far None other none =
      SameStep (ap (λ (limit : Option Limit). ended_with large limit line_length count r front) (sym (none refl)))
  ended_by_limit line_length count r front so_far (Some limit) other none =
      StopsAtEnd limit count.line (notes (closed r.table))
      (ap (λ (items : List Item). record { out = items; behind = Over limit count.line })
      (nothing_behind small limit count.line (told_items (notes (closed r.table)))))
      (begins_more _ _ (map OneByte (given_behind other count.line line_length r))
      (begins_more _ _ (told_items (own_told large count.line other))
      (begins_told _ _ (told_first other count.line line_length r.table))))

  table_stopped : (line_length : ℕ) (count : Count) (r : Reading) (front : Front) (so_far : List Told)
      → IsStopped small so_far (table_ended small line_length count r front) (table_ended large line_length count r front)
  table_stopped line_length count r front so_far =
      ended_by_limit line_length count r front so_far (limit_at_end small line_length r.table)
      (limit_at_end large line_length r.table) (end_none small large less line_length r.table)

  -- a byte of a table
  inside_by_limit : (b : ℕ) (count : Count) (front : Front) (r : Reading) (met other : Option Limit) → (met ≡ None → other ≡ None)
      → IsStopped small (told_at_cut r.table) (goes_on_inside met small b count front r)
      (goes_on_inside other large b count front r)
  inside_by_limit b count front r None other none =
      SameStep (ap (λ (limit : Option Limit). goes_on_inside limit large b count front r) (sym (none refl)))
  inside_by_limit b count front r (Some limit) other none = StopsHere limit count.line refl

  stopped_if : (so_far : List Told) (t : Bool) (a b c d : Step) → IsStopped small so_far a b → IsStopped small so_far c d
      → IsStopped small so_far (if t then a else c) (if t then b else d)
  stopped_if so_far true a b c d first second = first
  stopped_if so_far false a b c d first second = second

  -- where a limit is looked at first, and no longer where it isn't met
  stopped_unless : (so_far : List Told) (limit : Limit) (line : ℕ) (met other : Bool) (a b c : Step)
      → (met ≡ false → other ≡ false) → IsStopped small so_far a b
      → IsStopped small so_far (if met then stops small limit line so_far else a) (if other then c else b)
  stopped_unless so_far limit line true other a b c none step = StopsHere limit line refl
  stopped_unless so_far limit line false other a b c none step = rw (none refl) step

  at_stopped : (line_length b : ℕ) (count : Count) (place : Place)
      → IsStopped small (told_so_far place) (take_at small line_length b count place) (take_at large line_length b count place)
  at_stopped line_length b count (Outside front) = SameStep refl
  at_stopped line_length b count RestOfStart = SameStep refl
  at_stopped line_length b count (Inside front r) =
      stopped_if (told_at_cut r.table) (is_name front && ends_name b) _ _ _ _
      (table_stopped line_length count (byte_read b r) (front_behind start_letter front b) (told_at_cut r.table))
      (inside_by_limit b count front r (limit_inside small b front r) (limit_inside large b front r)
      (inside_none small large less b front r))

  byte_stopped : (line_length b : ℕ) (now : Now)
      → IsStopped small (told_so_far now.place) (take small line_length b now) (take large line_length b now)
  byte_stopped line_length b now =
      stopped_unless (told_so_far now.place) TblBytes now.count.line (nat_le small.bytes now.count.taken)
      (nat_le large.bytes now.count.taken) _ _ _
      (le_stays small.bytes large.bytes now.count.taken less.bytes) (at_stopped line_length b (counted b now.count) now.place)

  -- the input's end
  passes_stopped : (count : Count) (r : Reading) (met other : Bool) → (met ≡ false → other ≡ false)
      → IsStopped small (told_at_cut r.table) (passes_table met small count r) (passes_table other large count r)
  passes_stopped count r true other none = StopsHere Text count.line refl
  passes_stopped count r false other none = rw (none refl) (SameStep refl)

  inside_stopped : (name : Bool) (line_length : ℕ) (count : Count) (r : Reading)
      → IsStopped small (told_at_cut r.table) (inside_ended name small line_length count r)
      (inside_ended name large line_length count r)
  inside_stopped true line_length count r = table_stopped line_length count r Nothing (told_at_cut r.table)
  inside_stopped false line_length count r =
      passes_stopped count r (nat_lt small.text (length (bytes_read r))) (nat_lt large.text (length (bytes_read r)))
      (lt_stays small.text large.text (length (bytes_read r)) less.text)

  end_stopped : (line_length : ℕ) (count : Count) (place : Place)
      → IsStopped small (told_so_far place) (end_at small line_length count place) (end_at large line_length count place)
  end_stopped line_length count (Outside front) = SameStep refl
  end_stopped line_length count RestOfStart = SameStep refl
  end_stopped line_length count (Inside front r) = inside_stopped (is_name front) line_length count r

  ending_stopped : (line_length : ℕ) (e : Ending) (now : Now)
      → IsStopped small (told_so_far now.place) (at_ending small line_length e now) (at_ending large line_length e now)
  ending_stopped line_length Ended now = end_stopped line_length now.count now.place
  ending_stopped line_length Failed now = SameStep refl
  ending_stopped line_length (Stopped limit) now = SameStep refl

  -- over whole inputs: what comes behind a step, or its ending
  behind_stop : (limit : Limit) (line : ℕ) (told : List Told) (s : Step) (rest : Standing → Tape) (whole : Tape)
      → s ≡ stops small limit line told → rest (Over limit line) ≡ record { items = []; ending = Stopped limit }
      → Begins (told_items told) whole.items
      → IsCutByLimit small (items_then s.out (rest s.behind)) whole
  behind_stop limit line told s rest whole is over begins =
      LimitMet (told_items told) limit line
      (ap (λ (step : Step). items_then step.out (rest step.behind)) is
      ∙ ap (items_then (told_items told ++ told_item (limit_told small limit line) ∷ [])) over
      ∙ ap (λ (items : List Item). record { items = items; ending = Stopped limit }) (nothing_behind small limit line (told_items told)))
      begins

  -- a cut behind the same items
  cut_behind : (out : List Item) (cut whole : Tape) → IsCutByLimit small cut whole
      → IsCutByLimit small (items_then out cut) (items_then out whole)
  cut_behind out cut whole (NoneMet is) = NoneMet (ap (items_then out) is)
  cut_behind out cut whole (LimitMet first limit line is begins) =
      LimitMet (out ++ first) limit line
      (ap (items_then out) is
      ∙ ap (λ (items : List Item). record { items = items; ending = Stopped limit })
      (sym (append_assoc out first (told_item (limit_told small limit line) ∷ []))))
      (begins_both out first whole.items begins)

  over_step : (so_far : List Told) (s t : Step) (rest others : Standing → Tape) → IsStopped small so_far s t
      → ((limit : Limit) (line : ℕ) → rest (Over limit line) ≡ record { items = []; ending = Stopped limit })
      → ((behind : Standing) → IsCutByLimit small (rest behind) (others behind))
      → Begins (told_items so_far) (items_then t.out (others t.behind)).items
      → IsCutByLimit small (items_then s.out (rest s.behind)) (items_then t.out (others t.behind))
  over_step so_far s t rest others (SameStep is) over later begins =
      rw is (cut_behind t.out (rest t.behind) (others t.behind) (later t.behind))
  over_step so_far s t rest others (StopsHere limit line is) over later begins =
      behind_stop limit line so_far s rest _ is (over limit line) begins
  over_step so_far s t rest others (StopsAtEnd limit line told is first) over later begins =
      behind_stop limit line told s rest _ is (over limit line) (begins_more (told_items told) t.out (others t.behind).items first)

  ended_cut : (e : Ending) (s : Standing) → IsCutByLimit small (ended_by e s) (ended_by e s)
  ended_cut e s = NoneMet refl

  cut_from : (line_length : ℕ) (s : Standing) (items : List Item) (e : Ending)
      → IsCutByLimit small (yields_from small line_length s items e) (yields_from large line_length s items e)
  cut_from line_length (Over limit line) items e = NoneMet refl
  cut_from line_length (Reads now) [] e =
      over_step (told_so_far now.place) (at_ending small line_length e now) (at_ending large line_length e now) (ended_by e)
      (ended_by e) (ending_stopped line_length e now)
      (λ limit line. refl) (ended_cut e) (messages_first large line_length now [] e)
  cut_from line_length (Reads now) (OneByte b ∷ items) e =
      over_step (told_so_far now.place) (take small line_length b now) (take large line_length b now)
      (λ s. yields_from small line_length s items e) (λ s. yields_from large line_length s items e)
      (byte_stopped line_length b now) (λ limit line. refl) (λ s. cut_from line_length s items e)
      (messages_first large line_length now (OneByte b ∷ items) e)
  cut_from line_length (Reads now) (OneNote message ∷ items) e = cut_from line_length (Reads now) items e

pub limits_cut : LimitsOnlyCut
limits_cut small large less line_length s items e = cut_from small large less line_length s items e
