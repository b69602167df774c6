-- How many turns of a run are still to come: each takes something, or ends what is half read.
use Rattle.std.proofs.Common.{◌≡◌, ℕ, ◌+◌, ◌≤◌, Bool, true, false, List, [], ◌∷◌, length, refl, arith, nat_lt, if◌then◌else◌, ltb-false}
use Rattle.roff_num.specs.declared.limit.Limit.TheVariants.{Bytes}
use Rattle.input_model.specs.Input.{Ahead, ByteAhead, FreeAhead, EndAhead, ReturnAhead, DoAhead, cost, item_taken}
use Rattle.input_source.specs.Tape.{Answer, Gives, Ends, OneByte, OneNote}
use Rattle.input_model.specs.declared.looked.Looked.{Looked}
use Rattle.input_model.specs.Looking.{answer_behind}
use Rattle.input_model.specs.Unread.{Unread, taking, taking_answer}
use Rattle.input_model.specs.Shown.{Shown, ShowsByte, ShowsEnd, ShowsReturn, ShowsDo, ShowsNote, ShowsEnding, ShowsRefusal}
use Rattle.input_escapes.specs.OpenEscape.{OpenEscape}
use Rattle.run_model.specs.Reading.{escape_ended, byte_taking}
use Rattle.run_model.specs.Reading.Items.{PageInput}
use Rattle.run_model.specs.Registers.{Known}
use Rattle.run_model.specs.Requests.{PageEvent}
use Rattle.run_model.specs.declared.line_state.LineState.{LineState}
use Rattle.run_model.specs.TurnsToCome.{begun, endings_of, turns_within, turns_to_come}
use Rattle.run_model.proofs.EscapeCounts.{some_ending}
use Rattle.run_model.proofs.KeepingNames.{KeepsTwoMore}
use Rattle.run_model.proofs.Keeping.{Keeps-taking, Keeps-escape_ended}

-- a call took a byte, the end of a text or of a body, or an event
abbrev pub IsTaken : Shown PageEvent → Type 0
IsTaken (ShowsByte b) = Unit {0}
IsTaken ShowsEnd = Unit {0}
IsTaken (ShowsReturn back) = Unit {0}
IsTaken (ShowsDo event) = Unit {0}
IsTaken (ShowsNote message) = ⊥
IsTaken (ShowsEnding ending) = ⊥
IsTaken (ShowsRefusal limit) = ⊥

-- fewer turns are to come behind a call, if it took something
abbrev Falls : Unread PageEvent → Shown PageEvent × Unread PageEvent → Type 0
Falls u call = IsTaken call.0 → turns_to_come call.1 + 5 ≤ turns_to_come u

-- unless the limit on bytes refuses the item
falls_unless : (limit count : ℕ) (refused : Bool) → nat_lt limit count ≡ refused → (u left : Unread PageEvent) (call : Shown PageEvent × Unread PageEvent)
    → (count ≤ limit → turns_to_come call.1 + 5 ≤ turns_to_come u) → Falls u (if refused then (ShowsRefusal Bytes, left) else call)
falls_unless limit count true is u left call falls taken = absurd taken
falls_unless limit count false is u left call falls taken = falls (ltb-false limit count is)

falls-item : (item : Ahead PageEvent) (items : List (Ahead PageEvent)) (bytes : ℕ) (i : PageInput) → i.charge + cost item ≤ bytes
    → turns_within bytes (item_taken item items i) + 5 ≤ turns_within bytes (record i { ahead = item ∷ items })
falls-item (ByteAhead b) items bytes i room = omega arith
falls-item (FreeAhead b) items bytes i room = omega arith
falls-item EndAhead items bytes i room = omega arith
falls-item (ReturnAhead back) items bytes i room = omega arith
falls-item (DoAhead event) items bytes i room = omega arith

falls-answer : (a : Answer) (u : Unread PageEvent) → Falls u (taking_answer a u)
falls-answer (Gives (OneByte b)) u = falls_unless u.limits.bytes (u.input.charge + 1) _ refl u _ _ (λ room. omega arith)
falls-answer (Gives (OneNote message)) u = λ taken. absurd taken
falls-answer (Ends ending) u = λ taken. absurd taken

falls-taking : (ahead : List (Ahead PageEvent)) (a : Answer) (i : PageInput) (looked : Looked) (v : Unread PageEvent)
    → let u : Unread PageEvent = record v { input = record i { ahead = ahead }; looked = looked } in Falls u (taking a u)
falls-taking [] a i looked v = falls-answer (answer_behind looked a) (record v { input = record i { ahead = [] }; looked = looked })
falls-taking (item ∷ items) a i looked v =
    let u : Unread PageEvent = record v { input = record i { ahead = item ∷ items }; looked = looked } in
    falls_unless v.limits.bytes (i.charge + cost item) _ refl u _ _ (falls-item item items v.limits.bytes u.input)

-- behind each item that is taken, fewer turns are to come, by five
pub turns_to_come-taking : (a : Answer) (u : Unread PageEvent) → IsTaken (taking a u).0 → turns_to_come (taking a u).1 + 5 ≤ turns_to_come u
turns_to_come-taking a u taken = falls-taking u.input.ahead a u.input u.looked u taken

-- what keeps the input's counts, and leaves two endings more to come, leaves four turns more at most
turns-two_more : (bytes : ℕ) (i j : PageInput) (old reading : LineState) → KeepsTwoMore i old j reading
    → turns_within bytes j + begun reading ≤ turns_within bytes i + begun old + 4
turns-two_more bytes i j old reading keeps = omega (arith, keeps.charge, keeps.free, keeps.escapes)

-- and so does a byte
pub turns_within-byte : (bytes : ℕ) (k : Known) (reading : LineState) (i : PageInput) (b : ℕ)
    → turns_within bytes (byte_taking k reading i b).input + begun (byte_taking k reading i b).reading ≤ turns_within bytes i + begun reading + 4
turns_within-byte bytes k reading i b = turns-two_more bytes i _ reading _ (Keeps-taking k reading i b)

-- where what is half read ends, a turn fewer is to come
ended : (bytes : ℕ) (k : Known) (reading : LineState) (i : PageInput) (half : List OpenEscape) → i.escapes ≡ half
    → 1 ≤ length half
    → turns_within bytes (escape_ended k reading i).input + begun (escape_ended k reading i).reading + 1 ≤ turns_within bytes i + begun reading
ended bytes k reading i [] is some = omega (arith, some)
ended bytes k reading i (first ∷ others) is some =
    let keeps = Keeps-escape_ended k reading i first others is in
    let some : 1 ≤ endings_of i.escapes = rw is (omega (arith, some_ending first others)) in
    omega (arith, keeps.charge, keeps.free, keeps.escapes, some)

pub turns_within-escape_ended : (bytes : ℕ) (k : Known) (reading : LineState) (i : PageInput) → 1 ≤ length i.escapes
    → turns_within bytes (escape_ended k reading i).input + begun (escape_ended k reading i).reading + 1 ≤ turns_within bytes i + begun reading
turns_within-escape_ended bytes k reading i some = ended bytes k reading i i.escapes refl some
