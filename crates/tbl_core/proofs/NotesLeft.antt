-- How many messages a step leaves to come.
use Rattle.std.proofs.Common.{◌≡◌, ℕ, ◌+◌, ◌-◌, ◌*◌, ◌<◌, ◌≤◌, List, [], ◌∷◌, ◌++◌, Bool, true, false, not, Option, Some, None, map, nat_le, nat_lt, ◌==◌, ◌&&◌, if◌then◌else◌, refl, sym, ap, ◌∙◌, length, arith, IfSome, length-append, unwrap_or}
use Rattle.std.proofs.lemmas.Bool.Decides.{nat_tests}
use Rattle.roff_num.specs.declared.limit.Limit.{Limit}
use Rattle.roff_num.specs.declared.limit.Limit.TheVariants.{Text, TblBytes}
use Rattle.input_source.specs.Bytes.{newline}
use Rattle.input_source.specs.declared.source.Taken.{Taken}
use Rattle.input_source.specs.Tape.{Item, OneByte, OneNote, Ending, Ended, Failed, Stopped, Gives, Ends, answer_of}
use Rattle.std.specs.Option.{MatchOption}
use Rattle.tbl_format.specs.declared.limits.TblLimits.{TblLimits}
use Rattle.tbl_options.specs.declared.message.Told.{Told}
use Rattle.tbl_core.specs.declared.place.Count.{Count}
use Rattle.tbl_core.specs.declared.place.Front.{Front}
use Rattle.tbl_core.specs.declared.place.Front.TheVariants.{Nothing}
use Rattle.tbl_core.specs.Lines.{counted, ends_name, front_behind, is_name, start_letter, end_letter}
use Rattle.tbl_core.specs.Machine.{Now, Place, Outside, RestOfStart, Inside, Standing, Reads, Over, Step, at_fault, at_rest, end_at, goes_on_inside, inside_ended, limit_inside, limit_told, not_ended, on_start_line, own_told, passes_table, standing_behind, stops, take, take_at, told_so_far}
use Rattle.tbl_options.specs.Messages.{told_item, told_items}
use Rattle.tbl_core.specs.NotesLeft.{most_behind, most_here, noted, notes_left}
use Rattle.tbl_table.specs.Reading.{Reading, begun, byte_read, bytes_read, given_at_end, last_read, limit_at_end, line_ended, told_behind}
use Rattle.tbl_table.specs.MayTell.{may_cut, may_tell}
use Rattle.tbl_table.specs.Table.{TableRead, is_bad, line_read, notes, told_at_cut}
use Rattle.tbl_core.specs.Tables.{TablesState, IsGiven, byte_step, ending_step, handed}
use Rattle.tbl_core.specs.Yields.{behind_step}
use Rattle.tbl_table.proofs.FewNotes.{few_at_cut, few_at_end, few_behind_line, few_closed, one_at_first}
use Rattle.tbl_table.proofs.FewTexts.{cut_behind_line, none_at_first}

-- messages among items
noted-append : (xs ys : List Item) → noted (xs ++ ys) ≡ noted xs + noted ys
noted-append [] ys = omega arith
noted-append (OneByte b ∷ xs) ys = noted-append xs ys
noted-append (OneNote m ∷ xs) ys = let more = noted-append xs ys in omega (arith, more)

noted-told : (ms : List Told) → noted (told_items ms) ≡ length ms
noted-told [] = refl
noted-told (m ∷ ms) = let more = noted-told ms in omega (arith, more)

pub noted-bytes : (bytes : List ℕ) → noted (map OneByte bytes) ≡ 0
noted-bytes [] = refl
noted-bytes (b ∷ bytes) = noted-bytes bytes

-- those of a table, the run's own, and bytes
noted-all : (told own : List Told) (bytes : List ℕ) → noted (told_items told ++ told_items own ++ map OneByte bytes) ≡ length told + length own
noted-all told own bytes =
    let first = noted-append (told_items told ++ told_items own) (map OneByte bytes) in
    let others = noted-append (told_items told) (told_items own) in
    omega (arith, first, others, noted-told told, noted-told own, noted-bytes bytes)

-- no more messages than these come for a step and behind it
abbrev pub IsFew : ℕ → TblLimits → Step → Type 0
IsFew most l s = noted s.out + most_behind l s.behind ≤ most

few_if : (most : ℕ) (l : TblLimits) (t : Bool) (a b : Step) → IsFew most l a → IsFew most l b → IsFew most l (if t then a else b)
few_if most l true a b few others = few
few_if most l false a b few others = others

few_stops : (most : ℕ) (l : TblLimits) (limit : Limit) (line : ℕ) (told : List Told) → length told + 1 ≤ most → IsFew most l (stops l limit line told)
few_stops most l limit line told few =
    let all = noted-append (told_items told) (told_item (limit_told l limit line) ∷ []) in
    omega (arith, few, all, noted-told told)

-- a name has one at most
name_most : (t : Bool) → (if t then 1 else 0) ≤ 1
name_most true = omega arith
name_most false = omega arith

-- at a table's end
few_ended : (l : TblLimits) (limit : Option Limit) (count : Count) (t : TableRead) (line_length : ℕ) (bytes : List ℕ) (front : Front) (more : ℕ)
    → may_tell t + may_cut t + 3 ≤ more
    → IsFew (5 * (l.bytes - count.taken) + more) l (record {
      out = told_items (told_behind limit count.line line_length t) ++ told_items (own_told l count.line limit) ++ map OneByte bytes;
      behind = standing_behind limit (record { count = count; place = Outside front });
    })
few_ended l None count t line_length bytes front more few =
    let all = noted-all (told_behind None count.line line_length t) [] bytes in
    omega (arith, few, all, few_at_end count.line line_length t, name_most (is_name front))
few_ended l (Some limit) count t line_length bytes front more few =
    let all = noted-all (told_behind (Some limit) count.line line_length t) (limit_told l limit count.line ∷ []) bytes in
    omega (arith, few, all, few_closed t)

-- behind a byte of a table
few_reading : (t : Bool) (line b : ℕ) (front : Front) (r : Reading)
    → most_here (Inside front (if t then line_ended line r else byte_read b r)) ≤ most_here (Inside front r) + 2
few_reading true line b front r = omega (arith, few_behind_line line r.line r.table, cut_behind_line line r.line r.table)
few_reading false line b front r = let more = length-append r.line (b ∷ []) in omega (arith, more)

few_inside : (l : TblLimits) (limit : Option Limit) (b : ℕ) (count : Count) (front : Front) (r : Reading)
    → IsFew (5 * (l.bytes - count.taken) + most_here (Inside front r) + 6) l (goes_on_inside limit l b count front r)
few_inside l None b count front r = let few = few_reading (b == newline) count.line b (front_behind end_letter front b) r in omega (arith, few)
few_inside l (Some limit) b count front r = few_stops _ l limit count.line (told_at_cut r.table) (omega (arith, few_at_cut r.table))

-- outside tables
few_at_start : (t : Bool) → most_here (if t then Inside Nothing begun else RestOfStart) ≤ 5
few_at_start true = omega (arith, one_at_first, none_at_first)
few_at_start false = omega arith

few_outside : (t : Bool) (front : Front) (b : ℕ) → most_here (if t then on_start_line b else Outside (front_behind start_letter front b)) ≤ 5
few_outside true front b = few_at_start (b == newline)
few_outside false front b = let few = name_most (is_name (front_behind start_letter front b)) in omega (arith, few)

few_at : (l : TblLimits) (line_length b : ℕ) (count : Count) (place : Place)
    → IsFew (5 * (l.bytes - count.taken) + most_here place + 6) l (take_at l line_length b count place)
few_at l line_length b count (Outside front) = let few = few_outside (is_name front && ends_name b) front b in omega (arith, few)
few_at l line_length b count RestOfStart = let few = few_at_start (b == newline) in omega (arith, few)
few_at l line_length b count (Inside front r) =
    few_if _ l (is_name front && ends_name b) _ _
    (let few = few_ended l (limit_at_end l line_length r.table) count r.table line_length (given_at_end l count.line line_length (byte_read b r)) (front_behind start_letter front b)
    (most_here (Inside front r) + 6) (omega arith) in omega (arith, few))
    (few_inside l (limit_inside l b front r) b count front r)

-- a byte that is told too much of leaves none
told_few : (place : Place) → length (told_so_far place) ≤ most_here place
told_few (Outside front) = omega arith
told_few RestOfStart = omega arith
told_few (Inside front r) = omega (arith, few_at_cut r.table)

few_unless : (l : TblLimits) (taken most : ℕ) (t : Bool) (a b : Step) → nat_le l.bytes taken ≡ t
    → IsFew (5 * (l.bytes - taken) + most) l a → IsFew (5 * (l.bytes - (taken + 1)) + most + 5) l b → IsFew (5 * (l.bytes - taken) + most) l (if t then a else b)
few_unless l taken most true a b is few others = few
few_unless l taken most false a b is few others =
    let inside : taken < l.bytes = grind (arith, nat_tests) in
    omega (arith, inside, others)

-- a byte
few_take : (l : TblLimits) (line_length b : ℕ) (now : Now) → IsFew (most_behind l (Reads now)) l (take l line_length b now)
few_take l line_length b now =
    let told = told_few now.place in
    let at = few_at l line_length b (counted b now.count) now.place in
    let few = few_unless l now.count.taken (most_here now.place + 1) (nat_le l.bytes now.count.taken)
    (stops l TblBytes now.count.line (told_so_far now.place)) (take_at l line_length b (counted b now.count) now.place) refl
    (few_stops (5 * (l.bytes - now.count.taken) + (most_here now.place + 1)) l TblBytes now.count.line (told_so_far now.place) (omega (arith, told))) (omega (arith, at)) in
    omega (arith, few)

pub few_byte : (l : TblLimits) (line_length b : ℕ) (s : Standing) → IsFew (most_behind l s) l (byte_step l line_length b s)
few_byte l line_length b (Reads now) = few_take l line_length b now
few_byte l line_length b (Over limit line) = omega arith

-- the message of a table that isn't ended
not_ended_few : (line : ℕ) (bad : Bool) → length (not_ended line bad) ≤ 1
not_ended_few line true = omega arith
not_ended_few line false = omega arith

-- the last line, if one is begun
last_few : (line : ℕ) (t : TableRead) (read bytes : List ℕ) → length (notes (last_read line (record { table = t; read = read; line = bytes }))) ≤ may_tell t + length bytes + 1
last_few line t read [] = omega (arith, few_closed t)
last_few line t read (b ∷ bytes) = omega (arith, few_closed (line_read line (b ∷ bytes) t), few_behind_line line (b ∷ bytes) t)

few_passes : (over : Bool) (l : TblLimits) (count : Count) (r : Reading)
    → IsFew (5 * (l.bytes - count.taken) + most_here (Inside Nothing r) + 1) l (passes_table over l count r)
few_passes true l count r = few_stops _ l Text count.line (told_at_cut r.table) (omega (arith, few_at_cut r.table))
few_passes false l count r =
    let t = last_read count.line r in
    let all = noted-all (notes t) (not_ended count.line (is_bad t)) (bytes_read r) in
    omega (arith, all, last_few count.line r.table r.read r.line, not_ended_few count.line (is_bad t))

few_last : (name : Bool) (l : TblLimits) (line_length : ℕ) (count : Count) (r : Reading)
    → IsFew (5 * (l.bytes - count.taken) + most_here (Inside Nothing r) + 1) l (inside_ended name l line_length count r)
few_last true l line_length count r =
    let few = few_ended l (limit_at_end l line_length r.table) count r.table line_length (given_at_end l count.line line_length r) Nothing
    (most_here (Inside Nothing r) + 1) (omega arith) in omega (arith, few)
few_last false l line_length count r = few_passes (nat_lt l.text (length (bytes_read r))) l count r

-- the message of a `.TS` line that the input ends with
few_start : (l : TblLimits) (count : Count) (name : Bool)
    → noted (told_items (not_ended count.line (not name))) + most_behind l (Reads (at_rest count)) ≤ 5 * (l.bytes - count.taken) + (if name then 1 else 0) + 1
few_start l count true = omega arith
few_start l count false = omega arith

few_end : (l : TblLimits) (line_length : ℕ) (count : Count) (place : Place) → IsFew (5 * (l.bytes - count.taken) + most_here place + 1) l (end_at l line_length count place)
few_end l line_length count (Outside front) = few_start l count (is_name front)
few_end l line_length count RestOfStart = few_start l count true
few_end l line_length count (Inside front r) = few_last (is_name front) l line_length count r

few_fault : (l : TblLimits) (now : Now) → IsFew (most_behind l (Reads now)) l (at_fault now)
few_fault l now = omega (arith, told_few now.place, noted-told (told_so_far now.place))

-- an ending
pub few_ending : (l : TblLimits) (line_length : ℕ) (e : Ending) (s : Standing) → IsFew (most_behind l s) l (ending_step l line_length e s)
few_ending l line_length Ended (Reads now) = few_end l line_length now.count now.place
few_ending l line_length Failed (Reads now) = few_fault l now
few_ending l line_length (Stopped limit) (Reads now) = few_fault l now
few_ending l line_length e (Over limit line) = omega arith

-- the same of whole states: behind a byte
noted-handed : (given : Option ℕ) (items : List Item) → noted (handed given ++ items) ≡ noted items
noted-handed None items = refl
noted-handed (Some b) items = refl

pub few_behind_byte : (old new : TablesState) (b : ℕ) (given : Option ℕ)
    → handed given ++ new.at.pending ≡ (byte_step old.limits old.line_length b old.at.standing).out
    → new.at.standing ≡ (byte_step old.limits old.line_length b old.at.standing).behind → new.limits ≡ old.limits
    → notes_left new ≤ notes_left old
few_behind_byte old new b given out behind limits =
    let few = few_byte old.limits old.line_length b old.at.standing in
    let items = sym (noted-handed given new.at.pending) ∙ ap noted out in
    let behind_is : most_behind new.limits new.at.standing ≡ most_behind old.limits (byte_step old.limits old.line_length b old.at.standing).behind = rw (limits, behind) refl in
    omega (arith, few, items, behind_is)

-- behind an ending
pub few_behind_ending : (old new : TablesState) (e : Ending)
    → new ≡ record { limits = old.limits; line_length = old.line_length; at = behind_step (ending_step old.limits old.line_length e old.at.standing) }
    → notes_left new ≤ notes_left old
few_behind_ending old new e is =
    let few = few_ending old.limits old.line_length e old.at.standing in
    let same = ap notes_left is in
    omega (arith, few, same)

-- and behind what was given: a message is one fewer
noted_fewer : (item : Item) (items : List Item) → noted items ≤ noted (item ∷ items)
noted_fewer (OneByte b) items = omega arith
noted_fewer (OneNote m) items = omega arith

note_fewer : (item : Item) (items : List Item) (m : List ℕ) → item ≡ OneNote m → noted items < noted (item ∷ items)
note_fewer (OneByte b) items m is = cc
note_fewer (OneNote n) items m is = omega arith

pub few_given : (old new : TablesState) (taken : Option Taken)
    → MatchOption taken ((old.at.pending ≡ []) × (new ≡ old)) (λ t. IsGiven old new t) → notes_left new ≤ notes_left old
few_given old new None given = let same = ap notes_left given.1 in omega (arith, same)
few_given old new (Some taken) given = let few = noted_fewer given.item new.at.pending in let same = ap notes_left given.is in omega (arith, few, same)

note_given : (old new : TablesState) (taken : Taken) → IsGiven old new taken → (m : List ℕ) → answer_of taken ≡ Gives (OneNote m) → notes_left new < notes_left old
note_given old new taken given m is =
    let same_answer : Gives given.item ≡ Gives (OneNote m) = sym given.answer ∙ is in
    let item_is : given.item ≡ OneNote m = cc in
    let few = note_fewer given.item new.at.pending m item_is in
    let same = ap notes_left given.is in
    omega (arith, few, same)

pub notes_given : (old new : TablesState) (taken : Option Taken) (most : ℕ) → notes_left old ≤ most
    → MatchOption taken ((old.at.pending ≡ []) × (new ≡ old)) (λ t. IsGiven old new t)
    → IfSome taken (λ t. (m : List ℕ) → answer_of t ≡ Gives (OneNote m) → notes_left new < most)
notes_given old new None most few given = tt
notes_given old new (Some taken) most few given = λ m is. let fewer = note_given old new taken given m is in omega (arith, few, fewer)

-- where an ending is answered otherwise
pub last_note_given : (old new : TablesState) (taken : Option Taken) (last : Taken) (e : Ending) (most : ℕ) → notes_left old ≤ most
    → MatchOption taken ((old.at.pending ≡ []) × (new ≡ old)) (λ t. IsGiven old new t) → answer_of last ≡ Ends e
    → (m : List ℕ) → answer_of (unwrap_or taken last) ≡ Gives (OneNote m) → notes_left new < most
last_note_given old new None last e most few given ends m is = cc
last_note_given old new (Some taken) last e most few given ends m is = let fewer = note_given old new taken given m is in omega (arith, few, fewer)
