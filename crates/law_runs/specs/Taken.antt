-- What a run takes of its tape, and what it leaves.
use Rattle.std.specs.Prelude.{◌≡◌, ℕ, ◌+◌, ◌-◌, ◌≤◌, List, [], ◌∷◌, ◌++◌, length, take, count_by, ◌==◌}
use Rattle.roff_num.specs.declared.limits.Limits.{Limits}
use Rattle.run_model.specs.Results.{rest_of, charge_of}
use Rattle.run_model.specs.Run.{State, initial, told_after}
use Rattle.run_model.specs.declared.start.Start.{Start}
use Rattle.input_source.specs.Bytes.{newline}
use Rattle.input_source.specs.Tape.{Tape, Item, OneByte, OneNote}

-- the bytes among some items
abbrev pub bytes_of : List Item → List ℕ
bytes_of [] = []
bytes_of (OneByte b ∷ items) = b ∷ bytes_of items
bytes_of (OneNote message ∷ items) = bytes_of items

-- how many newlines are among some bytes
abbrev pub newlines_in : List ℕ → ℕ
newlines_in bytes = count_by (λ b. b == newline) bytes

-- the line on which the last of some bytes stands: the one behind the newlines before it
abbrev pub line_of_last : List ℕ → ℕ
line_of_last bytes = newlines_in (take (length bytes - 1) bytes) + 1

-- The items taken of a tape and those still to come are together the tape's. Each byte taken was charged, as what
-- stood ahead of the source is, and the line that messages tell is that of the last one.
pub record Takes (tape : Tape) (s : State) : Type 0 where
  pub taken : List Item
  pub items : tape.items ≡ taken ++ s.tape.items
  pub ending : s.tape.ending ≡ tape.ending
  pub charge : length (bytes_of taken) ≤ s.input.charge
  pub newlines : s.input.newlines ≡ newlines_in (bytes_of taken)
  pub line : s.input.line ≡ line_of_last (bytes_of taken)

-- no step skips an item or takes one twice
abbrev pub EachItemIsTakenOnce : Type 0
EachItemIsTakenOnce = (l : Limits) (start : Start) (tape : Tape) (n : ℕ) → Takes tape (told_after l n (initial l start tape))

-- the items that a whole run takes and its rest are together the tape's; the bytes taken are charged, and the charge
-- is no more than the limit says
pub record LeavesItsRest (l : Limits) (start : Start) (tape : Tape) : Type 0 where
  pub taken : List Item
  pub items : tape.items ≡ taken ++ (rest_of l start tape).items
  pub ending : (rest_of l start tape).ending ≡ tape.ending
  pub charge : length (bytes_of taken) ≤ charge_of l start tape
  pub within : charge_of l start tape ≤ l.bytes

-- so it is with each run
abbrev pub EachRunLeavesItsRest : Type 0
EachRunLeavesItsRest = (l : Limits) (start : Start) (tape : Tape) → LeavesItsRest l start tape
