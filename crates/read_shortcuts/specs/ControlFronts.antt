-- The front of a control line, up to its name: what its bytes lead to.
use Rattle.std.specs.Prelude.{◌≡◌, ◌==◌, ◌||◌, ◌&&◌, not, nat_lt, ℕ, Bool, true, false, if◌then◌else◌, List, [], ◌∷◌, length, Some, None}
use Rattle.input_source.specs.Bytes.{apostrophe, backslash, blank, dot, newline}
use Rattle.roff_scan.specs.Unread.Calls.{IsFront, front_bytes}
use Rattle.roff_scan.specs.Unread.Lines.{StandsNewline, begins_with_newline, is_ended}
use Rattle.run_model.specs.Reading.Items.{PageUnread, PageInput, going_on}
use Rattle.run_model.specs.Reading.{byte_taking}
use Rattle.input_model.specs.declared.place.Place.{Place}
use Rattle.read_names.specs.NamesRead.{LeadsTo, is_deciding}
use Rattle.roff_scan.specs.declared.unread.lines.BehindHeld.{BehindHeld}
use Rattle.run_model.specs.Reading.ControlLines.{BelongsToName, behind_called}
use Rattle.run_model.specs.Reading.Ends.{due}
use Rattle.run_model.specs.Requests.{called_by}
use Rattle.input_escapes.specs.declared.open_escape.Waiting.TheVariants.{Takes}
use Rattle.run_model.specs.Reading.Waiting.{line_waits}
use Rattle.run_model.specs.Registers.{Known}
use Rattle.read_shortcuts.specs.declared.control.ControlFront.{ControlFront}
use Rattle.read_shortcuts.specs.declared.control.ControlRead.{ControlRead}
use Rattle.read_shortcuts.specs.declared.control.ControlRead.TheVariants.{Nothing, Escape, Short, Front, Dropped, Condition, Decided, Held, HeldForCall, HeldToEnd}
use Rattle.run_model.specs.declared.line_state.LineState.{LineState}
use Rattle.run_model.specs.declared.line_state.LineState.TheVariants.{Control}

-- the byte with which a control line begins, by whether its requests break
abbrev pub control_byte : Bool → ℕ
control_byte breaks = if breaks then dot else apostrophe

-- where this is read and nothing is half read, a control line may begin
abbrev pub BeginsControl : LineState → Type 0
BeginsControl reading =
    (k : Known) (i : PageInput) (breaks : Bool) → i.escapes ≡ []
    → byte_taking k reading i (control_byte breaks) ≡ going_on i (Control breaks)

-- where this is read and nothing is half read, the item in front is taken
abbrev pub TakesAtBeginning : LineState → Type 0
TakesAtBeginning reading = (place : Place) → line_waits reading place ≡ Takes

-- these bytes begin with those of a control line's front, behind which a newline is next or isn't
pub record Fronts (bytes : List ℕ) (front : ControlFront) : Type 0 where
  pub rest : List ℕ
  pub are : bytes ≡ control_byte front.breaks ∷ front.first ∷ front.second ∷ rest
  pub ends : front.ends ≡ begins_with_newline rest

-- these bytes stand in front
pub record StandsReady (bytes ready : List ℕ) (u : PageUnread) : Type 0 where
  pub are : bytes ≡ front_bytes (length bytes) ready u
  pub front : IsFront (length bytes) ready u

-- whether anything was read of one
abbrev pub is_read : ControlRead → Bool
is_read Nothing = false
is_read Escape = false
is_read Short = false
is_read Front = true
is_read Dropped = true
is_read Condition = true
is_read Decided = true
is_read (Held behind) = true
is_read (HeldForCall behind) = true
is_read HeldToEnd = true

-- whether its bytes were read past: no newline that isn't read yet was taken behind them, and no condition decided
abbrev pub is_past : ControlRead → Bool
is_past Nothing = false
is_past Escape = false
is_past Short = false
is_past Front = true
is_past Dropped = true
is_past Condition = true
is_past Decided = false
is_past (Held behind) = true
is_past (HeldForCall behind) = true
is_past HeldToEnd = false

-- what was read of one, by what stands behind the bytes that were held in its arguments
abbrev pub read_to : BehindHeld → ControlRead
read_to behind = if is_ended behind then HeldToEnd else Held behind

-- the same of a line that calls a body
abbrev pub read_for_call : BehindHeld → ControlRead
read_for_call behind = if is_ended behind then HeldToEnd else HeldForCall behind

-- what was read of a line that is dropped, by whether its newline was taken
abbrev pub read_dropped : Bool → ControlRead
read_dropped is_ended = if is_ended then Dropped else Front

-- behind a name arguments are read: nothing is due there, and what was read of the name begins nothing that is half read
abbrev pub HoldsArguments : LineState → Type 0
HoldsArguments reading = (due reading ≡ None) × (is_deciding reading ≡ false)

-- A name of two bytes stands in front, behind its dot or apostrophe, where a control line may begin, and behind it this is read. The
-- newline that ends the line is next, or isn't looked at.
pub record StandsName (front : ControlFront) (there reading : LineState) (ready : List ℕ) (u : PageUnread) : Type 0 where
  pub stands : StandsReady (control_byte front.breaks ∷ front.first ∷ front.second ∷ []) ready u
  pub begins : BeginsControl reading
  pub none_due : due reading ≡ None
  pub none_half : u.input.escapes ≡ []
  pub first : BelongsToName front.first
  pub second : BelongsToName front.second
  pub leads : LeadsTo (λ i. behind_called i front.breaks (called_by (record { first = front.first; second = Some front.second }) u.input.names)) there
  pub ends : front.ends ≡ true → StandsNewline 3 ready u

-- whether a byte belongs to a name behind a dot or apostrophe, and prints something
abbrev pub prints_in_name : ℕ → Bool
prints_in_name b = nat_lt blank b && (not (b == 127) && not (b == backslash))

-- whether these two bytes are read at once behind it: a backslash is, and a name of two bytes that print
abbrev pub is_front_read : ℕ → ℕ → Bool
is_front_read first second = first == backslash || (prints_in_name first && prints_in_name second)

-- whether they are a name of one byte that prints, and a newline
abbrev pub ends_short : ℕ → ℕ → Bool
ends_short first second = prints_in_name first && second == newline

-- whether a dot or apostrophe stands in front of two bytes of which this is so
abbrev pub begins_line : (ℕ → ℕ → Bool) → List ℕ → Bool
begins_line of (mark ∷ first ∷ second ∷ rest) = (mark == dot || mark == apostrophe) && of first second
begins_line of (_) = false

-- whether the front of a control line is read at once, with which these bytes begin
abbrev pub reads_front : List ℕ → Bool
reads_front bytes = begins_line is_front_read bytes

-- and whether it is where its name has one byte, with the newline that ends the line
abbrev pub reads_short : List ℕ → Bool
reads_short bytes = begins_line ends_short bytes
