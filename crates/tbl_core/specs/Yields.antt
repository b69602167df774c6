-- What is given for a whole input.
use Rattle.std.specs.Prelude.{◌≡◌, ℕ, List, [], ◌∷◌}
use Rattle.input_source.specs.Tape.{Item, OneByte, OneNote, Ending, Ended, Failed, Stopped, Tape, only, items_then}
use Rattle.tbl_format.specs.declared.limits.TblLimits.{TblLimits}
use Rattle.tbl_core.specs.Lines.{nothing_counted}
use Rattle.tbl_core.specs.Machine.{Now, Standing, Reads, Over, Step, take, at_end, at_fault, at_rest}

-- what is to give before the next byte is taken, and how the run stands
pub record At : Type 0 where
  pub pending : List Item
  pub standing : Standing

-- behind a step
abbrev pub behind_step : Step → At
behind_step s = record { pending = s.out; standing = s.behind }

-- before the first byte
abbrev pub at_start : At
at_start = record { pending = []; standing = Reads (at_rest nothing_counted) }

-- the step at an ending of the input
abbrev pub at_ending : TblLimits → ℕ → Ending → Now → Step
at_ending l line_length Ended now = at_end l line_length now
at_ending l line_length Failed now = at_fault now
at_ending l line_length (Stopped limit) now = at_fault now

-- how what is given ends behind it
abbrev pub ended_by : Ending → Standing → Tape
ended_by e (Reads now) = only e
ended_by e (Over limit line) = only (Stopped limit)

-- what is given for the items of an input; its messages aren't passed on
abbrev pub yields_from : TblLimits → ℕ → Standing → List Item → Ending → Tape
yields_from l line_length (Over limit line) items e = only (Stopped limit)
yields_from l line_length (Reads now) [] e =
    items_then (at_ending l line_length e now).out (ended_by e (at_ending l line_length e now).behind)
yields_from l line_length (Reads now) (OneByte b ∷ items) e =
    items_then (take l line_length b now).out (yields_from l line_length (take l line_length b now).behind items e)
yields_from l line_length (Reads now) (OneNote message ∷ items) e = yields_from l line_length (Reads now) items e

-- what is given for a tape, what is pending first
abbrev pub yields : TblLimits → ℕ → At → Tape → Tape
yields l line_length at t = items_then at.pending (yields_from l line_length at.standing t.items t.ending)

-- what may be given, by what the input may give
pub record MayGive (l : TblLimits) (line_length : ℕ) (at : At) (inner : Tape → Type 0) (t : Tape) : Type 0 where
  pub under : Tape
  pub given : inner under
  pub is : t ≡ yields l line_length at under

-- nothing was given between: what may be given now might have been given before
abbrev pub Continues : (Tape → Type 0) → (Tape → Type 0) → Type 0
Continues old new = (t : Tape) → new t → old t
