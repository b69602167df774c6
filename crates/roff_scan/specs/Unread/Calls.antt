-- What calls tell that take, see or pass over what is unread.
use Rattle.std.specs.Prelude.{◌≡◌, ℕ, ◌+◌, ◌≤◌, ◌==◌, false, List, [], ◌∷◌, ◌++◌, length, map, take}
use Rattle.std.specs.List.{AllByRecursion}
use Rattle.input_source.specs.Bytes.{newline}
use Rattle.input_escapes.specs.ConditionFronts.{HalvesTaken}
use Rattle.input_model.specs.Input.{Ahead, ByteAhead, EndAhead, ReturnAhead, bytes_taken, item_taken, leading, lines_taken}
use Rattle.input_source.specs.Tape.{Tape, Answer, OneByte, items_then}
use Rattle.input_model.specs.declared.looked.Looked.{Looked}
use Rattle.input_model.specs.declared.looked.Looked.TheVariants.{Nothing, Byte, Closed}
use Rattle.input_model.specs.Unread.{Unread, Asked, Stays, asks_to_take, asks_to_look, taking, looking}
use Rattle.input_model.specs.Shown.{Shown, Sighted}

-- the front item was taken and shown, by the source's answer if it was asked
pub record Takes {E : Type 0} (old new : Tape → Type 0) (before after : Unread E) (item : Shown E) : Type 0 where
  pub answer : Answer
  pub asked : Asked old new (asks_to_take before) answer
  pub taken : (item, after) ≡ taking answer before

-- the same of what was looked at
pub record Looks {E : Type 0} (old new : Tape → Type 0) (before after : Unread E) (sight : Sighted) : Type 0 where
  pub answer : Answer
  pub asked : Asked old new (asks_to_look before) answer
  pub seen : (sight, after) ≡ looking answer before

-- the bytes of the source that come next: those that stand ready, where none was looked at
abbrev pub ready_behind : Looked → List ℕ → List ℕ
ready_behind Nothing ready = ready
ready_behind (Byte b) ready = []
ready_behind (Closed kept) ready = []

-- the bytes that come next: those ahead up to the first other item, or where nothing is ahead those of the source
abbrev pub next_bytes : {E : Type 0} → List (Ahead E) → Looked → List ℕ → List ℕ
next_bytes [] looked ready = ready_behind looked ready
next_bytes (item ∷ items) looked ready = leading (item ∷ items)

-- so many of them
abbrev pub front_bytes : {E : Type 0} → ℕ → List ℕ → Unread E → List ℕ
front_bytes count ready u = take count (next_bytes u.input.ahead u.looked ready)

-- there are so many, and the limit on bytes allows them
pub record IsFront {E : Type 0} (count : ℕ) (ready : List ℕ) (u : Unread E) : Type 0 where
  pub among : count ≤ length (next_bytes u.input.ahead u.looked ready)
  pub within : u.input.charge + count ≤ u.limits.bytes

-- no newline is among these bytes
abbrev pub NoNewline : List ℕ → Type 0
NoNewline bytes = AllByRecursion (λ b. (b == newline) ≡ false) bytes

-- These bytes of the source were taken at once. What it may give behind them, it might have given with them in front, and
-- there is such a tape.
pub record PassesSource {E : Type 0} (old new : Tape → Type 0) (bytes : List ℕ) (before after : Unread E) : Type 0 where
  pub ahead : before.input.ahead ≡ []
  pub looked : before.looked ≡ Nothing
  pub in_front : (t : Tape) → new t → old (items_then (map OneByte bytes) t)
  pub some : (t : Tape) × new t
  pub input : after ≡ record before { input = lines_taken bytes before.input }
  pub within : before.input.charge + length bytes ≤ before.limits.bytes

-- these bytes that stand ahead were taken at once, each at its cost, and the source wasn't asked
pub record PassesTexts {E : Type 0} (old new : Tape → Type 0) (bytes : List ℕ) (before after : Unread E) : Type 0 where
  pub behind : List (Ahead E)
  pub in_front : before.input.ahead ≡ map ByteAhead bytes ++ behind
  pub stays : Stays old new
  pub input : after ≡ record before { input = bytes_taken bytes behind before.input }
  pub within : before.input.charge + length bytes ≤ before.limits.bytes

-- these bytes were taken at once, wherever they stood; no bytes stand anywhere, and nothing changed then
pub data PassesFront {E : Type 0} (old new : Tape → Type 0) (bytes : List ℕ) (before after : Unread E) : Type 0 where
  OfSource : PassesSource old new bytes before after → PassesFront old new bytes before after
  OfTexts : PassesTexts old new bytes before after → PassesFront old new bytes before after

-- a newline that stands ahead was taken at its cost, and the source wasn't asked
pub record PassesNewline {E : Type 0} (before after : Unread E) : Type 0 where
  pub behind : List (Ahead E)
  pub in_front : before.input.ahead ≡ ByteAhead newline ∷ behind
  pub input : after ≡ record before { input = record before.input { ahead = behind; charge = before.input.charge + 1 } }
  pub within : before.input.charge + 1 ≤ before.limits.bytes

-- the end of a text that stands ahead was taken at its cost
pub record PassesEnd {E : Type 0} (before after : Unread E) : Type 0 where
  pub behind : List (Ahead E)
  pub in_front : before.input.ahead ≡ EndAhead ∷ behind
  pub input : after ≡ record before { input = record before.input { ahead = behind; charge = before.input.charge + 1 } }
  pub within : before.input.charge + 1 ≤ before.limits.bytes

-- the end of a call that leads back to a line's beginning was in front, and was taken
pub record PassesReturn {E : Type 0} (before after : Unread E) : Type 0 where
  pub behind : List (Ahead E)
  pub in_front : before.input.ahead ≡ ReturnAhead 0 ∷ behind
  pub input : after ≡ record before { input = item_taken (ReturnAhead 0) behind before.input }
  pub within : before.input.charge + 1 ≤ before.limits.bytes

-- So many bytes of a pushed text were taken at once where a condition is half read, each at its cost, and changed only what is half
-- read, in which some are held; the source wasn't asked.
pub record TakesPushed {E : Type 0} (count : ℕ) (before after : Unread E) : Type 0 where
  pub bytes : List ℕ
  pub length_is : length bytes ≡ count
  pub behind : List (Ahead E)
  pub in_front : before.input.ahead ≡ map ByteAhead bytes ++ behind
  pub taken : HalvesTaken before.input.escapes bytes after.input.escapes
  pub input : after ≡ record before { input = record before.input { ahead = behind; charge = before.input.charge + length bytes; escapes = after.input.escapes } }
  pub within : before.input.charge + length bytes ≤ before.limits.bytes
