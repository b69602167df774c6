-- Conditions that are read at once, where they stand whole in front and decide (manual, section 16).
use Rattle.std.specs.Prelude.{◌≡◌, ◌-◌, ◌≤◌, ℕ, Bool, if◌then◌else◌, pos, int_lt, true, false, List, [], ◌∷◌, None, Some, Ok}
use Rattle.roff_num.specs.Expressions.{value_at}
use Rattle.roff_num.specs.declared.num.Num.{Num}
use Rattle.roff_num.specs.declared.num.Scale.TheVariants.{Units}
use Rattle.input_source.specs.Bytes.{blank}
use Rattle.input_source.specs.Tape.{Gives, OneByte, Tape, front, items_then}
use Rattle.input_escapes.specs.OpenEscape.{Condition}
use Rattle.input_escapes.specs.Waiting.{is_ended_by}
use Rattle.input_escapes.specs.declared.open_escape.ConditionPart.TheVariants.{Decided, Expression}
use Rattle.input_escapes.specs.declared.open_escape.Decision.TheVariants.{Is}
use Rattle.input_escapes.specs.declared.open_escape.Waiting.TheVariants.{Waits}
use Rattle.input_model.specs.Input.{is_none_ahead, pushed}
use Rattle.input_model.specs.Shown.{SeesByte, seen_ahead}
use Rattle.input_model.specs.declared.looked.Looked.TheVariants.{Nothing}
use Rattle.input_model.specs.Unread.{IsWithin}
use Rattle.roff_scan.specs.Unread.Calls.{PassesEnd}
use Rattle.run_state.specs.declared.composer.Composer.{Composer as ComposerOf}
use Rattle.read_lines.specs.Reader.State.{ReaderState}
use Rattle.run_model.specs.Reading.Branches.{branch_of}
use Rattle.run_model.specs.Reading.Items.{PageUnread}
use Rattle.run_model.specs.Reading.Waiting.{waiting_in}
use Rattle.run_model.specs.declared.line_state.LineState.TheVariants.{Deciding}
use Rattle.read_shortcuts.specs.ControlFronts.{StandsReady, control_byte}
use Rattle.read_shortcuts.specs.KeptResults.{results_kept}
use Rattle.read_shortcuts.specs.OtherBranches.{TakesOther}
use Rattle.read_shortcuts.specs.Registers.{Asked, OfArgument, OfRegister, PutsText}
use Rattle.read_shortcuts.specs.Stages.{ReadsPast}
use Rattle.read_shortcuts.specs.declared.answered.Answer.{Answer}
use Rattle.read_shortcuts.specs.declared.conditions.BehindName.{BehindName}
use Rattle.read_shortcuts.specs.declared.conditions.BehindName.TheVariants.{Constant, Blank, Texts, Other}

-- the digit of a condition that asks nothing, by whether it is so
abbrev pub digit_of : Bool → ℕ
digit_of so = if so then 49 else 48

-- the bytes of a control line's front, and of a condition that asks nothing, between blanks
abbrev pub constant_front : Bool → ℕ → ℕ → Bool → List ℕ
constant_front breaks first second so = control_byte breaks ∷ first ∷ second ∷ blank ∷ digit_of so ∷ blank ∷ []

-- behind the first three of these bytes stands a condition that asks nothing, between blanks, and whether it is so
pub record AsksNothing (bytes : List ℕ) (so : Bool) : Type 0 where
  pub mark : ℕ
  pub first : ℕ
  pub second : ℕ
  pub rest : List ℕ
  pub is : bytes ≡ mark ∷ first ∷ second ∷ blank ∷ digit_of so ∷ blank ∷ rest

-- a blank does
pub record HasBlank (bytes : List ℕ) : Type 0 where
  pub mark : ℕ
  pub first : ℕ
  pub second : ℕ
  pub rest : List ℕ
  pub is : bytes ≡ mark ∷ first ∷ second ∷ blank ∷ rest

-- what stands behind the first three of these bytes
abbrev pub StandsBehind : List ℕ → BehindName → Type 0
StandsBehind bytes (Constant so) = AsksNothing bytes so
StandsBehind bytes (Blank asks) = HasBlank bytes
StandsBehind bytes Texts = HasBlank bytes
StandsBehind bytes Other = Unit {0}

-- this stands behind the first three of the bytes in front
pub record SeesBehind (behind : BehindName) (ready : List ℕ) (u : PageUnread) : Type 0 where
  pub bytes : List ℕ
  pub stands : StandsReady bytes ready u
  pub are : StandsBehind bytes behind

-- a reader that reads a condition, whose result is kept or isn't
abbrev pub deciding_reader : Bool → ReaderState → ReaderState
deciding_reader keeps r = record r { reading = Deciding keeps }

-- what is unread where a condition has decided: nothing is half read, and its result is kept, if it is to be
abbrev pub kept_half : Bool → Bool → PageUnread → PageUnread
kept_half keeps so u = record u { input = record u.input { escapes = []; results = results_kept keeps so u.input } }

-- where a condition stands in the source, the limits have room for its bytes in what is half read, beside its text
abbrev pub HoldsMore : Answer → PageUnread → Type 0
HoldsMore answer u = is_none_ahead u.input.ahead ≡ true → answer.count ≤ u.limits.stack - pushed u.input - answer.len

-- what a source may give where these bytes of it come in front of what it may give then
abbrev pub coming : List ℕ → (Tape → Type 0) → Tape → Type 0
coming [] gives = gives
coming (b ∷ bytes) gives = λ t. (behind : Tape) × (coming bytes gives behind × (t ≡ items_then (OneByte b ∷ []) behind))

-- a byte is seen next behind any ends of texts: it stands ahead, or it is the next one of the source, whatever that may give
pub data SeesNext (b : ℕ) (gives : Tape → Type 0) (u : PageUnread) : Type 0 where
  OfAhead : seen_ahead u.input.ahead ≡ Some (SeesByte b) → SeesNext b gives u
  OfReady : seen_ahead u.input.ahead ≡ None → u.looked ≡ Nothing → ((t : Tape) → gives t → front t ≡ Gives (OneByte b)) → SeesNext b gives u

-- the end of a text was passed, if it is said
abbrev pub PassesEndIf : Bool → PageUnread → PageUnread → Type 0
PassesEndIf true before after = PassesEnd before after × IsWithin after
PassesEndIf false before after = after ≡ before

-- An expression that is a number is half read of a condition, and a blank is seen next, before which it ends; it decides, and the end of a
-- text, if one stands in front, and bytes behind that were read past.
pub record DecidesBehind (keeps : Bool) (gave gives : Tape → Type 0) (old new : ReaderState) (before after : PageUnread) : Type 0 where
  pub deciding : old.reading ≡ Deciding keeps
  pub text : List ℕ
  pub half : before.input.escapes ≡ Condition (Expression false) text ∷ []
  pub sees : SeesNext blank gave before
  pub value : Num × ℕ
  pub is_number : value_at text 0 Units (Some (pos 0)) ≡ Ok value
  pub within : IsWithin (kept_half keeps (int_lt (pos 0) value.0.0) before)
  pub is_ended : Bool
  pub over : PageUnread
  pub ends : PassesEndIf is_ended (kept_half keeps (int_lt (pos 0) value.0.0) before) over
  pub behind : ReadsPast gave gives (record old { reading = branch_of (int_lt (pos 0) value.0.0) }) new over after

-- A control line's front was read at once, and a condition behind it that asks nothing, which decided.
pub record DecidesConstant (gave gives : Tape → Type 0) (old new : ReaderState) (before after : PageUnread) : Type 0 where
  pub keeps : Bool
  pub between : PageUnread
  pub past : ReadsPast gave gives old (deciding_reader keeps old) before between
  pub decides : DecidesBehind keeps gives gives (deciding_reader keeps old) new between after

-- the end of a text was passed in front of a byte that is seen next, for which what is half read waits
pub record PassesWaiting (keeps : Bool) (gives : Tape → Type 0) (before after : PageUnread) : Type 0 where
  pub waits : waiting_in (Deciding keeps) before.input ≡ Waits
  pub byte : ℕ
  pub sees : SeesNext byte gives before
  pub stays : is_ended_by before.input.escapes (Some byte) ≡ false
  pub passes : PassesEnd before after
  pub within : IsWithin after

-- behind the text that was read in an escape's place the end of that was passed, and bytes of the condition were read; or none were
pub data ReadsRest (keeps : Bool) (second last : List ℕ) (gives : Tape → Type 0) (r : ReaderState) (ended between : PageUnread) : Type 0 where
  NoRest : last ≡ second → between ≡ ended → ReadsRest keeps second last gives r ended between
  SomeRest : (over : PageUnread) → PassesWaiting keeps (coming second gives) ended over → ReadsPast (coming second gives) (coming last gives) r r over between
      → ReadsRest keeps second last gives r ended between

-- A control line's front was read at once, and of a condition behind it the bytes in front of an escape; its text was read in its place,
-- and the bytes behind it. These bytes of the source come in front of the escape, behind it, and behind the bytes that were read last.
pub record ReadsAsked (asked_for : Asked) (es : ComposerOf) (keeps : Bool) (last : List ℕ) (gave gives : Tape → Type 0) (old : ReaderState) (before between : PageUnread) : Type 0 where
  pub first : List ℕ
  pub second : List ℕ
  pub asked : PageUnread
  pub past : ReadsPast gave (coming first gives) old (deciding_reader keeps old) before asked
  pub put : PageUnread
  pub puts : PutsText asked_for (coming first gives) (coming second gives) (deciding_reader keeps old) es asked put
  pub ended : PageUnread
  pub text : ReadsPast (coming second gives) (coming second gives) (deciding_reader keeps old) (deciding_reader keeps old) put ended
  pub rest : ReadsRest keeps second last gives (deciding_reader keeps old) ended between

-- A control line's front was read at once, and a condition behind it that asks for a register: its expression decided.
pub record DecidesRegister (es : ComposerOf) (gave gives : Tape → Type 0) (old new : ReaderState) (before after : PageUnread) : Type 0 where
  pub keeps : Bool
  pub last : List ℕ
  pub between : PageUnread
  pub reads : ReadsAsked OfRegister es keeps last gave gives old before between
  pub within : IsWithin between
  pub decides : DecidesBehind keeps (coming last gives) gives (deciding_reader keeps old) new between after

-- A control line's front was read at once, and a condition behind it that compares an argument with a text, which decided.
pub record DecidesTexts (es : ComposerOf) (gave gives : Tape → Type 0) (old new : ReaderState) (before after : PageUnread) : Type 0 where
  pub keeps : Bool
  pub between : PageUnread
  pub asked : ReadsAsked OfArgument es keeps [] gave gives old before between
  pub so : Bool
  pub texts : List ℕ
  pub half : between.input.escapes ≡ Condition (Decided (Is so) None) texts ∷ []
  pub is : after ≡ kept_half keeps so between
  pub reads : new ≡ record old { reading = branch_of so }
  pub within : IsWithin after

-- a condition was read at once with the front of its line, and decided, or a kept result decided of the other branch
pub data DecidesAtOnce (es : ComposerOf) (gave gives : Tape → Type 0) (old new : ReaderState) (before after : PageUnread) : Type 0 where
  ByConstant : DecidesConstant gave gives old new before after → DecidesAtOnce es gave gives old new before after
  ByRegister : DecidesRegister es gave gives old new before after → DecidesAtOnce es gave gives old new before after
  ByTexts : DecidesTexts es gave gives old new before after → DecidesAtOnce es gave gives old new before after
  ByOther : TakesOther gave gives old new before after → DecidesAtOnce es gave gives old new before after
