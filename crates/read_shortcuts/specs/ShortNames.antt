-- Names of one byte behind the dot or apostrophe of a control line, with the blank that ends them (manual, sections 1.1 and 7).
use Rattle.std.specs.Prelude.{◌≡◌, ℕ, Bool, true, false, List, [], ◌∷◌, None, Option}
use Rattle.input_model.specs.Arguments.{AreFewer, Arguments, only_kept, with_argument_byte}
use Rattle.input_source.specs.Bytes.{blank}
use Rattle.read_names.specs.NamesRead.{LeadsTo}
use Rattle.roff_scan.specs.Unread.Lines.{with_held}
use Rattle.run_model.specs.Reading.ControlLines.{BelongsToName, behind_called}
use Rattle.run_model.specs.Reading.Ends.{due}
use Rattle.run_model.specs.Reading.Items.{PageUnread}
use Rattle.run_model.specs.Requests.{called_by}
use Rattle.run_model.specs.declared.line_state.LineState.{LineState}
use Rattle.run_model.specs.declared.line_state.LineState.TheVariants.{Collecting, Dropped}
use Rattle.run_model.specs.declared.purpose.Purpose.TheVariants.{Arguments as InArguments, Calling}
use Rattle.read_shortcuts.specs.ControlFronts.{BeginsControl, StandsReady, control_byte}

-- whether the blank that ends a name is taken with it, where this is read behind the name: arguments of a request or of a body, or a line that
-- is dropped
abbrev pub takes_blank : LineState → Bool
takes_blank (Collecting (InArguments breaks request)) = true
takes_blank (Collecting (Calling name)) = true
takes_blank Dropped = true
takes_blank (_) = false

-- a name of one byte and a blank stand in front, behind their dot or apostrophe, where a control line may begin, and behind the name this is read
pub record StandsShort (there reading : LineState) (ready : List ℕ) (u : PageUnread) : Type 0 where
  pub breaks : Bool
  pub first : ℕ
  pub stands : StandsReady (control_byte breaks ∷ first ∷ blank ∷ []) ready u
  pub begins : BeginsControl reading
  pub none_due : due reading ≡ None
  pub none_half : u.input.escapes ≡ []
  pub named : BelongsToName first
  pub leads : LeadsTo (λ i. behind_called i breaks (called_by (record { first = first; second = None }) u.input.names)) there

-- the arguments of a line behind a blank
abbrev pub with_blank : Arguments → Arguments
with_blank a = only_kept (with_argument_byte a blank)

-- a blank was held in the arguments of the line, of which fewer than so many are whole
pub record HoldsBlank (most : Option ℕ) (old new : PageUnread) : Type 0 where
  pub fewer : AreFewer most old.input.arguments
  pub is : new ≡ with_held (with_blank old.input.arguments) old
