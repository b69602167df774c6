-- The unread input, and what its calls answer (manual, section 7).
--
-- Beside the input it has the limits, and what was looked at of the source: a byte that isn't taken yet stands behind what is
-- ahead, and before what the source still gives; or nothing more is taken of it.
use Rattle.std.specs.Prelude.{◌≡◌, ℕ, ◌+◌, ◌-◌, ◌≤◌, ◌&&◌, is_none, Bool, true, false, List, [], ◌∷◌, length, nat_lt, Option, Some, None, if◌then◌else◌, Result, Ok, Err}
use Rattle.roff_num.specs.declared.limit.Limit.{Limit}
use Rattle.roff_num.specs.declared.limit.Limit.TheVariants.{Bytes, Stack, Depth, Diversions, Conditions, Store, Names}
use Rattle.roff_num.specs.declared.limits.Limits.{Limits}
use Rattle.input_escapes.specs.OpenEscapes.{Reads, reading_ended}
use Rattle.input_model.specs.Input.{with_escapes, Input, initial_input, is_none_ahead, Ahead, cost, counting, item_taken, pushed, depth, result_count}
use Rattle.input_model.specs.Input.Names.{stored, names_added}
use Rattle.roff_store.specs.Texts.{Texts}
use Rattle.input_source.specs.Tape.{Tape, Answer, Answers, Gives, Ends, OneByte, OneNote}
use Rattle.input_escapes.specs.declared.open_escape.Decision.TheVariants.{Is}
use Rattle.input_escapes.specs.declared.open_escape.Found.{Found}
use Rattle.input_escapes.specs.declared.open_escape.Found.TheVariants.{Decides}
use Rattle.input_escapes.specs.declared.open_escape.Surroundings.{Surroundings}
use Rattle.input_model.specs.Looking.{Looked, Nothing, Byte, answer_behind, is_nothing}
use Rattle.input_model.specs.Shown.{no_texts, Shown, shown_ahead, Sighted, seen_ahead, ShowsByte, ShowsNote, ShowsEnding, ShowsRefusal, SeesByte, SeesNote, SeesEnding}

-- the unread input
pub record Unread (E : Type 0) : Type 0 where
  pub input : Input E
  -- what was looked at of the source
  pub looked : Looked
  pub limits : Limits

-- no count is above its limit
pub record IsWithin {E : Type 0} (u : Unread E) : Type 0 where
  pub charge : u.input.charge ≤ u.limits.bytes
  pub newlines : u.input.newlines ≤ u.input.charge
  pub pushed : pushed u.input ≤ u.limits.stack
  pub depth : depth u.input ≤ u.limits.depth
  pub results : result_count u.input ≤ u.limits.conditions
  pub stored : stored u.input ≤ u.limits.store
  pub names : names_added u.input ≤ u.limits.names
  pub making : length u.input.open_texts ≤ u.limits.diversions + 1

-- the texts of an input, as a store within these limits has them
abbrev pub texts_within : {E : Type 0} → Limits → Input E → Texts
texts_within l i = record (no_texts l i.first_names) {
  names = record { entries = i.names; cap = l.names + i.first_names };
  open_texts = i.open_texts;
}

-- before anything is read
abbrev pub initial_unread : {E : Type 0} → Limits → ℕ → Unread E
initial_unread limits first_names = record { input = initial_input first_names; looked = Nothing; limits = limits }

-- a source that isn't asked may give what it might have given, and nothing else
pub record Stays (old new : Tape → Type 0) : Type 0 where
  pub before : (t : Tape) → new t → old t
  pub after : (t : Tape) → old t → new t

-- a source that is asked answers this, and one that isn't stays
abbrev pub Asked : (old new : Tape → Type 0) → Bool → Answer → Type 0
Asked old new true a = Answers old new a
Asked old new false a = Stays old new

-- an item ahead is taken, unless it would pass the limit on bytes
abbrev pub taking_ahead : {E : Type 0} → Ahead E → List (Ahead E) → Unread E → Shown E × Unread E
taking_ahead item behind u =
    if nat_lt u.limits.bytes (u.input.charge + cost item)
    then (ShowsRefusal Bytes, u)
    else (shown_ahead item, record u { input = item_taken item behind u.input })

-- an answer of the source is taken; a byte that would pass the limit on bytes was looked at
abbrev pub taking_answer : {E : Type 0} → Answer → Unread E → Shown E × Unread E
taking_answer (Gives (OneByte b)) u =
    if nat_lt u.limits.bytes (u.input.charge + 1)
    then (ShowsRefusal Bytes, record u { looked = Byte b })
    else (ShowsByte b, record u { input = counting b u.input; looked = Nothing })
taking_answer (Gives (OneNote message)) u = (ShowsNote message, u)
taking_answer (Ends ending) u = (ShowsEnding ending, u)

-- the first of these is taken, or if there is none, what the source answers
abbrev pub taking_first : {E : Type 0} → List (Ahead E) → Answer → Unread E → Shown E × Unread E
taking_first [] a u = taking_answer (answer_behind u.looked a) u
taking_first (item ∷ behind) a u = taking_ahead item behind u

-- the item in front is taken, where the source answers this if it is asked
abbrev pub taking : {E : Type 0} → Answer → Unread E → Shown E × Unread E
taking a u = taking_first u.input.ahead a u

-- whether the source is asked for what stands in front: nothing is ahead, no byte was looked at, and more is taken of it
abbrev pub asks_to_take : {E : Type 0} → Unread E → Bool
asks_to_take u = is_none_ahead u.input.ahead && is_nothing u.looked

-- what is seen of the source by its answer; a byte stays, and was looked at
abbrev pub looking_at : {E : Type 0} → Answer → Unread E → Sighted × Unread E
looking_at (Gives (OneByte b)) u = (SeesByte b, record u { looked = Byte b })
looking_at (Gives (OneNote message)) u = (SeesNote message, u)
looking_at (Ends ending) u = (SeesEnding ending, u)

-- what is seen ahead, or if nothing is, what the source answers
abbrev pub looking_past : {E : Type 0} → Option Sighted → Answer → Unread E → Sighted × Unread E
looking_past None a u = looking_at (answer_behind u.looked a) u
looking_past (Some sight) a u = (sight, u)

-- the first byte behind any ends is looked at, where the source answers this if it is asked
abbrev pub looking : {E : Type 0} → Answer → Unread E → Sighted × Unread E
looking a u = looking_past (seen_ahead u.input.ahead) a u

-- whether the source is asked for what is seen: nothing is seen ahead, no byte was looked at, and more is taken of it
abbrev pub asks_to_look : {E : Type 0} → Unread E → Bool
asks_to_look u = is_none (seen_ahead u.input.ahead) && is_nothing u.looked

-- The first limit that a count of this input is above, those of the texts before those of what stands in front; that on
-- diversions stands behind those on the store and on names, and a text that is made beside the diversions counts as none of them.
abbrev pub input_refusal : {E : Type 0} → Limits → Input E → Option Limit
input_refusal l i =
    if nat_lt l.store (stored i) then Some Store
    else if nat_lt l.names (names_added i) then Some Names
    else if nat_lt l.diversions (length i.open_texts - 1) then Some Diversions
    else if nat_lt l.stack (pushed i) then Some Stack
    else if nat_lt l.depth (depth i) then Some Depth
    else if nat_lt l.conditions (result_count i) then Some Conditions
    else None

-- a change of the input is made, unless a count would pass its limit
abbrev pub unless_passed : {E : Type 0} → Option Limit → Input E → Unread E → Result (Unit {0}) Limit × Unread E
unless_passed None i u = (Ok tt, record u { input = i })
unless_passed (Some limit) i u = (Err limit, u)

-- the input changes to this one, or a limit refuses it
abbrev pub changing : {E : Type 0} → Input E → Unread E → Result (Unit {0}) Limit × Unread E
changing i u = unless_passed (input_refusal u.limits i) i u

-- what a reading gives, and the input with what is half read then
abbrev pub reading : {E : Type 0} → Reads → Unread E → Found × Unread E
reading r u = (r.0, record u { input = with_escapes r.1 u.input })

-- A condition that is read and asks nothing more ended, with no byte freed: whether it is so. Where there was none, nothing
-- happened.
abbrev pub EndsDecided : {E : Type 0} → Option Bool → Unread E → Unread E → Type 0
EndsDecided None old new = new ≡ old
EndsDecided (Some so) old new = (base : Surroundings) → (Decides (Is so) None, new) ≡ reading (reading_ended base old.input.escapes) old
