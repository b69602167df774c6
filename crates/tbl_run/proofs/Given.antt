-- What is given for an input, an answer after another: behind each answer stands what came behind it.
use Rattle.std.proofs.Common.{◌≡◌, ◌+◌, ℕ, List, [], ◌∷◌, Bool, true, false, Option, Some, None, nat_lt, refl, ap, arith, length}
use Rattle.roff_num.specs.declared.limit.Limit.{Limit}
use Rattle.input_source.specs.Tape.{Ended, Ending, Failed, Gives, Item, OneByte, OneNote, Stopped, Tape, behind_front, front, items_then}
use Rattle.tbl_format.specs.declared.limits.TblLimits.{TblLimits}
use Rattle.tbl_core.specs.Lines.{is_name}
use Rattle.tbl_core.specs.Machine.{Inside, Now, Outside, Over, Place, Reads, RestOfStart, Standing, at_rest, end_at, inside_ended, passes_table, standing_behind, take}
use Rattle.tbl_core.specs.Stages.{Stage, answered, answered_by, ending_answered}
use Rattle.tbl_core.specs.Yields.{at_ending, ended_by, yields, yields_from}
use Rattle.tbl_core.specs.declared.place.Count.{Count}
use Rattle.tbl_table.specs.Reading.{Reading, bytes_read, limit_at_end}

module _ (l : TblLimits) (line_length : ℕ) where
  -- what is still given at a stage
  abbrev pub given : Stage → Tape
  given s = yields l line_length s.at s.tape

  -- where the input has ended, nothing more is given but the ending
  abbrev IsAtRest : Ending → Standing → Type 0
  IsAtRest e s = yields_from l line_length s [] e ≡ ended_by e s

  at_rest-rests : (e : Ending) (count : Count) → IsAtRest e (Reads (at_rest count))
  at_rest-rests Ended count = refl
  at_rest-rests Failed count = refl
  at_rest-rests (Stopped limit) count = refl

  standing-rests : (e : Ending) (limit : Option Limit) (count : Count) → IsAtRest e (standing_behind limit (at_rest count))
  standing-rests e None count = at_rest-rests e count
  standing-rests e (Some limit) count = refl

  passes-rests : (over : Bool) (count : Count) (r : Reading) → IsAtRest Ended (passes_table over l count r).behind
  passes-rests true count r = refl
  passes-rests false count r = at_rest-rests Ended count

  inside-rests : (name : Bool) (count : Count) (r : Reading) → IsAtRest Ended (inside_ended name l line_length count r).behind
  inside-rests true count r = standing-rests Ended (limit_at_end l line_length r.table) count
  inside-rests false count r = passes-rests (nat_lt l.text (length (bytes_read r))) count r

  end-rests : (count : Count) (place : Place) → IsAtRest Ended (end_at l line_length count place).behind
  end-rests count (Outside front) = at_rest-rests Ended count
  end-rests count RestOfStart = at_rest-rests Ended count
  end-rests count (Inside front r) = inside-rests (is_name front) count r

  -- so it is behind an ending
  ending-rests : (e : Ending) (now : Now) → IsAtRest e (at_ending l line_length e now).behind
  ending-rests Ended now = end-rests now.count now.place
  ending-rests Failed now = at_rest-rests Failed now.count
  ending-rests (Stopped limit) now = at_rest-rests (Stopped limit) now.count

  -- behind an answer at an ending
  ending_behind : (e : Ending) (s : Standing) (out : List Item) → IsAtRest e s
      → given (ending_answered e s out).stage ≡ behind_front (items_then out (ended_by e s))
  ending_behind e s (item ∷ out) rests = ap (items_then out) rests
  ending_behind e (Reads now) [] rests = ap (items_then []) rests
  ending_behind e (Over limit line) [] rests = refl

  behind_by : (s : Standing) (pending items : List Item) (e : Ending)
      → given (answered_by l line_length s pending items e).stage ≡ behind_front (items_then pending (yields_from l line_length s items e))
  behind_by s (item ∷ pending) items e = refl
  behind_by (Over limit line) [] items e = refl
  behind_by (Reads now) [] [] e =
      ending_behind e (at_ending l line_length e now).behind (at_ending l line_length e now).out (ending-rests e now)
  behind_by (Reads now) [] (OneByte b ∷ items) e = behind_by (take l line_length b now).behind (take l line_length b now).out items e
  behind_by (Reads now) [] (OneNote message ∷ items) e = behind_by (Reads now) [] items e

  pub given_behind : (s : Stage) → given (answered l line_length s).stage ≡ behind_front (given s)
  given_behind s = behind_by s.at.standing s.at.pending s.tape.items s.tape.ending

-- an item in front of a tape is one more
fewer_at : (items : List Item) (e : Ending) (item : Item) → let t : Tape = record { items = items; ending = e } in
    front t ≡ Gives item → length (behind_front t).items + 1 ≡ length items
fewer_at [] e item is = cc
fewer_at (first ∷ items) e item is = omega arith

pub fewer_behind_front : (t : Tape) (item : Item) → front t ≡ Gives item → length (behind_front t).items + 1 ≡ length t.items
fewer_behind_front t item is = fewer_at t.items t.ending item is
