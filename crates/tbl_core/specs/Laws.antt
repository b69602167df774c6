-- What holds of tables whatever the input is.
use Rattle.std.specs.Prelude.{◌≡◌, ℕ, ◌≤◌, List, [], ◌∷◌, ◌++◌}
use Rattle.roff_num.specs.declared.limit.Limit.{Limit}
use Rattle.input_source.specs.Tape.{Item, Ending, Failed, Stopped, Tape, front}
use Rattle.tbl_format.specs.declared.limits.TblLimits.{TblLimits}
use Rattle.tbl_core.specs.Machine.{Now, Standing, Reads, limit_told, told_so_far}
use Rattle.tbl_options.specs.Messages.{told_item, told_items}
use Rattle.tbl_table.specs.NotesStay.{Begins}
use Rattle.tbl_core.specs.Stages.{Stage, answered}
use Rattle.tbl_core.specs.Yields.{yields, yields_from}

-- whatever comes, the messages of the complete lines are given first
abbrev pub MessagesComeFirst : Type 0
MessagesComeFirst =
    (l : TblLimits) (line_length : ℕ) (now : Now) (items : List Item) (e : Ending)
    → Begins (told_items (told_so_far now.place)) (yields_from l line_length (Reads now) items e).items

-- over an input that fails a beginning is given of what is given where it goes on
abbrev pub FailingOnlyCuts : Type 0
FailingOnlyCuts =
    (l : TblLimits) (line_length : ℕ) (s : Standing) (items more : List Item) (e : Ending)
    → Begins (yields_from l line_length s items Failed).items (yields_from l line_length s (items ++ more) e).items

-- none of these limits is greater than the other's; that on the output is for whoever writes what is given
pub record AreNoGreater (small large : TblLimits) : Type 0 where
  pub rows : small.rows ≤ large.rows
  pub columns : small.columns ≤ large.columns
  pub text : small.text ≤ large.text
  pub width : small.width ≤ large.width
  pub bytes : small.bytes ≤ large.bytes

-- what is given within the smaller limits is the same, or a beginning of it with the message of the limit that was met
pub data IsCutByLimit (small : TblLimits) (cut whole : Tape) : Type 0 where
  NoneMet : (is : cut ≡ whole) → IsCutByLimit small cut whole
  LimitMet : (first : List Item) (limit : Limit) (line : ℕ)
      (is : cut ≡ record { items = first ++ told_item (limit_told small limit line) ∷ []; ending = Stopped limit }) (begins : Begins first whole.items)
      → IsCutByLimit small cut whole

-- smaller limits only cut
abbrev pub LimitsOnlyCut : Type 0
LimitsOnlyCut =
    (small large : TblLimits) → AreNoGreater small large → (line_length : ℕ) (s : Standing) (items : List Item) (e : Ending)
    → IsCutByLimit small (yields_from small line_length s items e) (yields_from large line_length s items e)

-- the answers, one at a time, are those of what is given for the input
abbrev pub AnswersAreGiven : Type 0
AnswersAreGiven =
    (l : TblLimits) (line_length : ℕ) (s : Stage) → (answered l line_length s).answer ≡ front (yields l line_length s.at s.tape)
