-- Steps that give nothing: the run reads on.
use Rattle.std.proofs.Common.{◌≡◌, ℕ, ◌+◌, ◌-◌, ◌<◌, List, [], ◌∷◌, ◌++◌, Bool, true, false, Option, Some, None, map, nat_le, nat_lt, ◌&&◌, if◌then◌else◌, refl, length, arith}
use Rattle.std.proofs.lemmas.Bool.Decides.{nat_tests}
use Rattle.roff_num.specs.declared.limit.Limit.{Limit}
use Rattle.roff_num.specs.declared.limit.Limit.TheVariants.{TblBytes}
use Rattle.input_source.specs.Tape.{Item, OneByte, Ending, Ended, Failed, Stopped}
use Rattle.tbl_format.specs.declared.limits.TblLimits.{TblLimits}
use Rattle.tbl_options.specs.declared.message.Told.{Told}
use Rattle.tbl_core.specs.declared.place.Count.{Count}
use Rattle.tbl_core.specs.declared.place.Front.{Front}
use Rattle.tbl_core.specs.Lines.{counted, ends_name, front_behind, is_name, start_letter}
use Rattle.tbl_core.specs.Machine.{Now, Place, Outside, RestOfStart, Inside, Standing, Reads, Over, Step, goes_on_inside, inside_ended, limit_inside, limit_told, own_told, passes_table, standing_behind, stops, take, take_at, told_so_far, end_at}
use Rattle.tbl_options.specs.Messages.{told_items}
use Rattle.tbl_core.specs.NotesLeft.{bytes_left}
use Rattle.tbl_table.specs.Reading.{Reading, byte_read, bytes_read, given_at_end, limit_at_end, told_at_end}
use Rattle.tbl_table.specs.Table.{told_at_cut}
use Rattle.tbl_core.specs.Tables.{byte_step, ending_step, stopped_by}
use Rattle.tbl_core.specs.Yields.{at_ending}

-- the run reads on, so many bytes taken
abbrev pub ReadsAt : ℕ → Standing → Type 0
ReadsAt taken (Reads now) = now.count.taken ≡ taken
ReadsAt taken (Over limit line) = ⊥

-- where nothing is given, it does
abbrev pub IsQuiet : ℕ → Step → Type 0
IsQuiet taken s = s.out ≡ [] → ReadsAt taken s.behind

-- a last item is one
last_given : (items : List Item) (item : Item) → items ++ item ∷ [] ≡ [] → ⊥
last_given [] item none = cc
last_given (first ∷ items) item none = cc

middle_given : (told : List Told) (m : Told) (bytes : List ℕ) → told_items told ++ told_items (m ∷ []) ++ map OneByte bytes ≡ [] → ⊥
middle_given [] m bytes none = cc
middle_given (first ∷ told) m bytes none = cc

quiet_if : (taken : ℕ) (t : Bool) (a b : Step) → IsQuiet taken a → IsQuiet taken b → IsQuiet taken (if t then a else b)
quiet_if taken true a b qa qb = qa
quiet_if taken false a b qa qb = qb

quiet_stops : (taken : ℕ) (l : TblLimits) (limit : Limit) (line : ℕ) (told : List Told) → IsQuiet taken (stops l limit line told)
quiet_stops taken l limit line told = λ none. absurd (last_given (told_items told) _ none)

quiet_ended : (l : TblLimits) (limit : Option Limit) (count : Count) (told : List Told) (bytes : List ℕ) (place : Place)
    → IsQuiet count.taken (record { out = told_items told ++ told_items (own_told l count.line limit) ++ map OneByte bytes; behind = standing_behind limit (record { count = count; place = place }) })
quiet_ended l None count told bytes place = λ none. refl
quiet_ended l (Some limit) count told bytes place = λ none. absurd (middle_given told (limit_told l limit count.line) bytes none)

quiet_inside : (l : TblLimits) (limit : Option Limit) (b : ℕ) (count : Count) (front : Front) (r : Reading) → IsQuiet count.taken (goes_on_inside limit l b count front r)
quiet_inside l None b count front r = λ none. refl
quiet_inside l (Some limit) b count front r = λ none. absurd (last_given (told_items (told_at_cut r.table)) _ none)

quiet_at : (l : TblLimits) (line_length b : ℕ) (count : Count) (place : Place) → IsQuiet count.taken (take_at l line_length b count place)
quiet_at l line_length b count (Outside front) = λ none. refl
quiet_at l line_length b count RestOfStart = λ none. refl
quiet_at l line_length b count (Inside front r) =
    quiet_if count.taken (is_name front && ends_name b) _ _
    (quiet_ended l (limit_at_end l line_length r.table) count (told_at_end l count.line line_length r.table) (given_at_end l count.line line_length (byte_read b r)) (Outside (front_behind start_letter front b)))
    (quiet_inside l (limit_inside l b front r) b count front r)

-- a byte that gives nothing was taken
pub quiet_byte : (l : TblLimits) (line_length b : ℕ) (now : Now) → IsQuiet (now.count.taken + 1) (take l line_length b now)
quiet_byte l line_length b now =
    quiet_if (now.count.taken + 1) (nat_le l.bytes now.count.taken)
    (stops l TblBytes now.count.line (told_so_far now.place)) (take_at l line_length b (counted b now.count) now.place)
    (quiet_stops (now.count.taken + 1) l TblBytes now.count.line (told_so_far now.place))
    (quiet_at l line_length b (counted b now.count) now.place)

quiet_passes : (over : Bool) (l : TblLimits) (count : Count) (r : Reading) → IsQuiet count.taken (passes_table over l count r)
quiet_passes true l count r = λ none. absurd (last_given (told_items (told_at_cut r.table)) _ none)
quiet_passes false l count r = λ none. refl

quiet_last : (name : Bool) (l : TblLimits) (line_length : ℕ) (count : Count) (r : Reading) → IsQuiet count.taken (inside_ended name l line_length count r)
quiet_last true l line_length count r =
    quiet_ended l (limit_at_end l line_length r.table) count (told_at_end l count.line line_length r.table) (given_at_end l count.line line_length r) _
quiet_last false l line_length count r = quiet_passes (nat_lt l.text (length (bytes_read r))) l count r

quiet_end : (l : TblLimits) (line_length : ℕ) (count : Count) (place : Place) → IsQuiet count.taken (end_at l line_length count place)
quiet_end l line_length count (Outside front) = λ none. refl
quiet_end l line_length count RestOfStart = λ none. refl
quiet_end l line_length count (Inside front r) = quiet_last (is_name front) l line_length count r

-- nor does an ending that gives nothing end the run
pub quiet_ending : (l : TblLimits) (line_length : ℕ) (e : Ending) (now : Now) → IsQuiet now.count.taken (at_ending l line_length e now)
quiet_ending l line_length Ended now = quiet_end l line_length now.count now.place
quiet_ending l line_length Failed now = λ none. refl
quiet_ending l line_length (Stopped limit) now = λ none. refl

-- where the run reads on, no limit has stopped it
pub reads_on : (taken : ℕ) (s : Standing) → ReadsAt taken s → stopped_by s ≡ None
reads_on taken (Reads now) is = refl
reads_on taken (Over limit line) is = absurd is

-- a byte that gives nothing leaves fewer to take
fewer_left : (l : TblLimits) (taken : ℕ) (s : Standing) → nat_le l.bytes taken ≡ false → ReadsAt (taken + 1) s → bytes_left l s < l.bytes - taken
fewer_left l taken (Reads now) more is = rw is (grind (arith, nat_tests))
fewer_left l taken (Over limit line) more is = absurd is

fewer_if : (l : TblLimits) (taken : ℕ) (t : Bool) (a b : Step) → nat_le l.bytes taken ≡ t → (a.out ≡ [] → ⊥) → IsQuiet (taken + 1) b
    → (if t then a else b).out ≡ [] → bytes_left l (if t then a else b).behind < l.bytes - taken
fewer_if l taken true a b is gives quiet none = absurd (gives none)
fewer_if l taken false a b is gives quiet none = fewer_left l taken b.behind is (quiet none)

pub fewer_behind : (l : TblLimits) (line_length b : ℕ) (s : Standing) → stopped_by s ≡ None → (byte_step l line_length b s).out ≡ []
    → bytes_left l (byte_step l line_length b s).behind < bytes_left l s
fewer_behind l line_length b (Reads now) reads none =
    fewer_if l now.count.taken (nat_le l.bytes now.count.taken) _ _ refl (last_given (told_items (told_so_far now.place)) _) (quiet_at l line_length b (counted b now.count) now.place) none
fewer_behind l line_length b (Over limit line) reads none = cc

-- and the run reads on
pub byte_reads : (l : TblLimits) (line_length b : ℕ) (s : Standing) → stopped_by s ≡ None → (byte_step l line_length b s).out ≡ []
    → stopped_by (byte_step l line_length b s).behind ≡ None
byte_reads l line_length b (Reads now) reads none = reads_on (now.count.taken + 1) _ (quiet_byte l line_length b now none)
byte_reads l line_length b (Over limit line) reads none = cc

-- a limit of the source's own is as a fault
pub stop_is_fault : (l : TblLimits) (line_length : ℕ) (limit : Limit) (s : Standing) → ending_step l line_length (Stopped limit) s ≡ ending_step l line_length Failed s
stop_is_fault l line_length limit (Reads now) = refl
stop_is_fault l line_length limit (Over other line) = refl
