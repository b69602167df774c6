-- The other branch of a condition, whose front is read at once (manual, section 16).
use Rattle.std.specs.Prelude.{◌≡◌, ℕ, Bool, [], ◌∷◌, Some, None, List}
use Rattle.input_model.specs.Input.Calls.{last_result, without_last}
use Rattle.input_model.specs.Unread.{IsWithin}
use Rattle.read_names.specs.NamesRead.{LeadsToElse}
use Rattle.read_lines.specs.Reader.State.{ReaderState}
use Rattle.run_model.specs.Reading.Branches.{branch_of, reads_else}
use Rattle.run_model.specs.Reading.ControlLines.{BelongsToName, behind_called}
use Rattle.run_model.specs.Reading.Ends.{due}
use Rattle.run_model.specs.Reading.Items.{PageUnread}
use Rattle.run_model.specs.Requests.{called_by}
use Rattle.run_model.specs.declared.line_state.LineState.{LineState}
use Rattle.roff_scan.specs.Unread.Calls.{PassesFront}
use Rattle.input_source.specs.Tape.{Tape}
use Rattle.read_shortcuts.specs.ControlFronts.{BeginsControl, StandsReady, control_byte}
use Rattle.read_shortcuts.specs.declared.control.ControlFront.{ControlFront}

-- Where this is read a control line begins, nothing is half read, and these two bytes are a name that stands for the other branch of a
-- condition.
pub record NamesOther (breaks : Bool) (first second : ℕ) (reading : LineState) (u : PageUnread) : Type 0 where
  pub begins : BeginsControl reading
  pub none_due : due reading ≡ None
  pub none_half : u.input.escapes ≡ []
  pub named_first : BelongsToName first
  pub named_second : BelongsToName second
  pub leads : LeadsToElse (λ i. behind_called i breaks (called_by (record { first = first; second = Some second }) u.input.names))

-- such a name stands in front, with its dot or apostrophe
pub record StandsOther (front : ControlFront) (reading : LineState) (ready : List ℕ) (u : PageUnread) : Type 0 where
  pub stands : StandsReady (control_byte front.breaks ∷ front.first ∷ front.second ∷ []) ready u
  pub named : NamesOther front.breaks front.first front.second reading u

-- It was taken, and with it the result that was kept last: the other branch begins, or is skipped.
pub record TakesOther (gave gives : Tape → Type 0) (old new : ReaderState) (before after : PageUnread) : Type 0 where
  pub breaks : Bool
  pub first : ℕ
  pub second : ℕ
  pub named : NamesOther breaks first second old.reading before
  pub passed : PageUnread
  pub passes : PassesFront gave gives (control_byte breaks ∷ first ∷ second ∷ []) before passed
  pub is : after ≡ record passed { input = without_last passed.input }
  pub reads : new ≡ record old { reading = branch_of (reads_else (last_result passed.input)) }
  pub within : IsWithin after
