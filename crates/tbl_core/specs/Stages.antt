-- What is answered next, by what an input gives and how far the run has come.
use Rattle.std.specs.Prelude.{◌≡◌, ℕ, List, [], ◌∷◌}
use Rattle.input_source.specs.Tape.{Item, OneByte, OneNote, Ending, Stopped, Tape, Answer, Gives, Ends, Took, items_then}
use Rattle.tbl_format.specs.declared.limits.TblLimits.{TblLimits}
use Rattle.tbl_core.specs.Machine.{Standing, Reads, Over, take}
use Rattle.tbl_core.specs.Yields.{At, at_ending}

-- what the input is still to give, and how far the run has come
pub record Stage : Type 0 where
  pub tape : Tape
  pub at : At

-- an answer, and the stage behind it
pub record Answered : Type 0 where
  pub answer : Answer
  pub stage : Stage

-- this is answered, and this is pending then
abbrev pub answering : Answer → Standing → List Item → List Item → Ending → Answered
answering a standing pending items e = record {
  answer = a;
  stage = record { tape = record { items = items; ending = e }; at = record { pending = pending; standing = standing } };
}

-- at an ending of the input: what the step there gives comes first, and then the ending, or that of a limit
abbrev pub ending_answered : Ending → Standing → List Item → Answered
ending_answered e standing (item ∷ out) = answering (Gives item) standing out [] e
ending_answered e (Reads now) [] = answering (Ends e) (Reads now) [] [] e
ending_answered e (Over limit line) [] = answering (Ends (Stopped limit)) (Over limit line) [] [] e

-- what is pending is given first; then items are taken, up to the first for which something is given
abbrev pub answered_by : TblLimits → ℕ → Standing → List Item → List Item → Ending → Answered
answered_by l line_length standing (item ∷ pending) items e = answering (Gives item) standing pending items e
answered_by l line_length (Over limit line) [] items e = answering (Ends (Stopped limit)) (Over limit line) [] items e
answered_by l line_length (Reads now) [] [] e =
    ending_answered e (at_ending l line_length e now).behind (at_ending l line_length e now).out
answered_by l line_length (Reads now) [] (OneByte b ∷ items) e =
    answered_by l line_length (take l line_length b now).behind (take l line_length b now).out items e
answered_by l line_length (Reads now) [] (OneNote message ∷ items) e = answered_by l line_length (Reads now) [] items e

abbrev pub answered : TblLimits → ℕ → Stage → Answered
answered l line_length s = answered_by l line_length s.at.standing s.at.pending s.tape.items s.tape.ending

-- what the input may give changes from the first to the second, as items are taken of it, and this is answered
pub record Takes (old new : Tape → Type 0) (l : TblLimits) (line_length : ℕ) (before behind : At) (a : Answer) : Type 0 where
  pub taken : List Item
  pub took : Took old new taken
  pub is : (left : Tape) → new left
      → answered l line_length (record { tape = items_then taken left; at = before })
      ≡ record { answer = a; stage = record { tape = left; at = behind } }

-- the same where nothing is answered yet: what is answered first is so behind them
pub record TakesOn (old new : Tape → Type 0) (l : TblLimits) (line_length : ℕ) (before behind : At) : Type 0 where
  pub taken : List Item
  pub earlier : (left : Tape) → new left → old (items_then taken left)
  pub is : (left : Tape) → new left
      → answered l line_length (record { tape = items_then taken left; at = before })
      ≡ answered l line_length (record { tape = left; at = behind })
