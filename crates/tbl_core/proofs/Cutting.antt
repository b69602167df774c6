-- What is given over an input that fails.
use Rattle.std.proofs.Common.{◌≡◌, ℕ, List, [], ◌∷◌, ◌++◌, Bool, true, false, ◌==◌, ◌&&◌, Option, Some, None, map, nat_le, nat_lt, length, if◌then◌else◌, refl, sym, ap, ◌∙◌, append_assoc, append-nil}
use Rattle.std.proofs.lemmas.List.{map-append}
use Rattle.roff_num.specs.declared.limit.Limit.{Limit}
use Rattle.roff_num.specs.declared.limit.Limit.TheVariants.{TblBytes}
use Rattle.input_source.specs.Bytes.{newline}
use Rattle.input_source.specs.Tape.{Item, OneByte, OneNote, Ending, Ended, Failed, Stopped}
use Rattle.tbl_format.specs.declared.limits.TblLimits.{TblLimits}
use Rattle.tbl_options.specs.declared.message.Told.{Told}
use Rattle.tbl_core.specs.declared.place.Count.{Count}
use Rattle.tbl_core.specs.declared.place.Front.{Front}
use Rattle.tbl_table.specs.NotesStay.{Begins}
use Rattle.tbl_core.specs.Laws.{FailingOnlyCuts, MessagesComeFirst}
use Rattle.tbl_core.specs.Lines.{counted, ends_name, front_behind, is_name, start_letter}
use Rattle.tbl_core.specs.Machine.{Now, Place, Outside, RestOfStart, Inside, Reads, Over, Step, end_at, goes_on_inside, inside_ended, limit_inside, own_told, passes_table, stops, take, take_at, table_ended, told_so_far}
use Rattle.tbl_options.specs.Messages.{told_item, told_items}
use Rattle.tbl_table.specs.Reading.{Reading, byte_read, bytes_read, given_at_end, last_read, limit_at_end, line_ended, told_behind}
use Rattle.tbl_table.specs.Table.{TableRead, line_read, notes, told_at_cut}
use Rattle.tbl_core.specs.Yields.{at_ending, yields_from}
use Rattle.tbl_table.proofs.NotesStaying.{begins_same, notes_stay}

-- beginnings
begins_none : {A : Type 0} (xs : List A) → Begins [] xs
begins_none xs = record { rest = xs; is = refl }

pub begins_more : {A : Type 0} (xs ys zs : List A) → Begins xs ys → Begins xs (ys ++ zs)
begins_more xs ys zs begins = record { rest = begins.rest ++ zs; is = ap (λ all. all ++ zs) begins.is ∙ append_assoc xs begins.rest zs }

begins_then : {A : Type 0} (xs ys zs : List A) → Begins xs ys → Begins ys zs → Begins xs zs
begins_then xs ys zs first second = record {
  rest = first.rest ++ second.rest;
  is = second.is ∙ ap (λ all. all ++ second.rest) first.is ∙ append_assoc xs first.rest second.rest;
}

pub begins_both : {A : Type 0} (front xs ys : List A) → Begins xs ys → Begins (front ++ xs) (front ++ ys)
begins_both front xs ys begins = record { rest = begins.rest; is = ap (λ all. front ++ all) begins.is ∙ sym (append_assoc front xs begins.rest) }

-- messages, as items
pub begins_told : (xs ys : List Told) → Begins xs ys → Begins (told_items xs) (told_items ys)
begins_told xs ys begins = record { rest = told_items begins.rest; is = ap told_items begins.is ∙ map-append told_item xs begins.rest }

-- messages that a step gives first, or that are still those of the place behind it
data IsFirst (told : List Told) (s : Step) : Type 0 where
  GivenFirst : (begins : Begins (told_items told) s.out) → IsFirst told s
  KeptFirst : (now : Now) (out : s.out ≡ []) (behind : s.behind ≡ Reads now) (begins : Begins told (told_so_far now.place)) → IsFirst told s

first_if : (told : List Told) (t : Bool) (a b : Step) → IsFirst told a → IsFirst told b → IsFirst told (if t then a else b)
first_if told true a b fa fb = fa
first_if told false a b fa fb = fb

first_stops : (l : TblLimits) (limit : Limit) (line : ℕ) (told : List Told) → IsFirst told (stops l limit line told)
first_stops l limit line told = GivenFirst (begins_more (told_items told) (told_items told) _ (begins_same (told_items told)))

-- at a table's end
told_at : (limit : Option Limit) (line line_length : ℕ) (t : TableRead) → Begins (told_at_cut t) (told_behind limit line line_length t)
told_at None line line_length t = notes_stay.at_end line line_length t
told_at (Some limit) line line_length t = notes_stay.closing t

first_ended : (l : TblLimits) (line_length : ℕ) (count : Count) (r s : Reading) (front : Front) → s.table ≡ r.table
    → IsFirst (told_at_cut r.table) (table_ended l line_length count s front)
first_ended l line_length count r s front same =
    let told = told_at (limit_at_end l line_length s.table) count.line line_length s.table in
    rw (← same) (GivenFirst (begins_more _ _ (map OneByte (given_at_end l count.line line_length s))
    (begins_more _ _ (told_items (own_told l count.line (limit_at_end l line_length s.table))) (begins_told _ _ told))))

-- behind a byte of a table
first_reading : (t : Bool) (line b : ℕ) (r : Reading) → Begins (told_at_cut r.table) (told_at_cut (if t then line_ended line r else byte_read b r).table)
first_reading true line b r = notes_stay.behind_line line r.line r.table
first_reading false line b r = begins_same (told_at_cut r.table)

first_inside : (l : TblLimits) (limit : Option Limit) (b : ℕ) (count : Count) (front : Front) (r : Reading) → IsFirst (told_at_cut r.table) (goes_on_inside limit l b count front r)
first_inside l None b count front r = KeptFirst _ refl refl (first_reading (b == newline) count.line b r)
first_inside l (Some limit) b count front r = first_stops l limit count.line (told_at_cut r.table)

first_at : (l : TblLimits) (line_length b : ℕ) (count : Count) (place : Place) → IsFirst (told_so_far place) (take_at l line_length b count place)
first_at l line_length b count (Outside front) = GivenFirst (begins_none _)
first_at l line_length b count RestOfStart = GivenFirst (begins_none _)
first_at l line_length b count (Inside front r) =
    first_if (told_at_cut r.table) (is_name front && ends_name b) (table_ended l line_length count (byte_read b r) (front_behind start_letter front b))
    (goes_on_inside (limit_inside l b front r) l b count front r)
    (first_ended l line_length count r (byte_read b r) (front_behind start_letter front b) refl) (first_inside l (limit_inside l b front r) b count front r)

first_take : (l : TblLimits) (line_length b : ℕ) (now : Now) → IsFirst (told_so_far now.place) (take l line_length b now)
first_take l line_length b now =
    first_if (told_so_far now.place) (nat_le l.bytes now.count.taken) (stops l TblBytes now.count.line (told_so_far now.place)) (take_at l line_length b (counted b now.count) now.place)
    (first_stops l TblBytes now.count.line (told_so_far now.place)) (first_at l line_length b (counted b now.count) now.place)

-- at an ending
last_first : (line : ℕ) (t : TableRead) (read bytes : List ℕ) → Begins (told_at_cut t) (notes (last_read line (record { table = t; read = read; line = bytes })))
last_first line t read [] = notes_stay.closing t
last_first line t read (b ∷ bytes) =
    begins_then _ _ _ (notes_stay.behind_line line (b ∷ bytes) t) (notes_stay.closing (line_read line (b ∷ bytes) t))

ends_passed : (over : Bool) (l : TblLimits) (count : Count) (r : Reading) → Begins (told_items (told_at_cut r.table)) (passes_table over l count r).out
ends_passed true l count r = begins_more _ _ _ (begins_same (told_items (told_at_cut r.table)))
ends_passed false l count r = begins_more _ _ _ (begins_more _ _ _ (begins_told _ _ (last_first count.line r.table r.read r.line)))

ends_inside : (name : Bool) (l : TblLimits) (line_length : ℕ) (count : Count) (r : Reading) → Begins (told_items (told_at_cut r.table)) (inside_ended name l line_length count r).out
ends_inside true l line_length count r = begins_more _ _ _ (begins_more _ _ _ (begins_told _ _ (told_at (limit_at_end l line_length r.table) count.line line_length r.table)))
ends_inside false l line_length count r = ends_passed (nat_lt l.text (length (bytes_read r))) l count r

ends_at : (l : TblLimits) (line_length : ℕ) (count : Count) (place : Place) → Begins (told_items (told_so_far place)) (end_at l line_length count place).out
ends_at l line_length count (Outside front) = begins_none _
ends_at l line_length count RestOfStart = begins_none _
ends_at l line_length count (Inside front r) = ends_inside (is_name front) l line_length count r

ends_first : (l : TblLimits) (line_length : ℕ) (e : Ending) (now : Now) → Begins (told_items (told_so_far now.place)) (at_ending l line_length e now).out
ends_first l line_length Ended now = ends_at l line_length now.count now.place
ends_first l line_length Failed now = begins_same (told_items (told_so_far now.place))
ends_first l line_length (Stopped limit) now = begins_same (told_items (told_so_far now.place))

-- over whole inputs
over_step : (l : TblLimits) (line_length : ℕ) (told : List Told) (s : Step) (items : List Item) (e : Ending) → IsFirst told s
    → ((now : Now) → Begins (told_items (told_so_far now.place)) (yields_from l line_length (Reads now) items e).items)
    → Begins (told_items told) (s.out ++ (yields_from l line_length s.behind items e).items)
over_step l line_length told s items e (GivenFirst begins) later = begins_more _ _ _ begins
over_step l line_length told s items e (KeptFirst now out behind begins) later =
    rw (out, behind) (begins_then _ _ _ (begins_told told (told_so_far now.place) begins) (later now))

pub messages_first : MessagesComeFirst
messages_first l line_length now [] e = begins_more _ _ _ (ends_first l line_length e now)
messages_first l line_length now (OneNote m ∷ items) e = messages_first l line_length now items e
messages_first l line_length now (OneByte b ∷ items) e =
    over_step l line_length (told_so_far now.place) (take l line_length b now) items e (first_take l line_length b now)
    (λ later. messages_first l line_length later items e)

pub failing_cuts : FailingOnlyCuts
failing_cuts l line_length (Over limit line) items more e = begins_none _
failing_cuts l line_length (Reads now) [] more e =
    rw (append-nil (told_items (told_so_far now.place))) (messages_first l line_length now more e)
failing_cuts l line_length (Reads now) (OneNote m ∷ items) more e = failing_cuts l line_length (Reads now) items more e
failing_cuts l line_length (Reads now) (OneByte b ∷ items) more e =
    begins_both (take l line_length b now).out _ _ (failing_cuts l line_length (take l line_length b now).behind items more e)
