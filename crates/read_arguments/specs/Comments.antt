-- A comment behind the arguments of a control line, up to the newline that ends both (manual, section 7.3, and the list of escape sequences
-- before section 1).
use Rattle.std.specs.Prelude.{◌≡◌, ℕ, ◌+◌, ◌≤◌, ◌==◌, ◌&&◌, ◌||◌, Bool, true, false, List, [], ◌∷◌, ◌++◌, length, None}
use Rattle.input_escapes.specs.OpenEscape.{Comment}
use Rattle.input_escapes.specs.declared.open_escape.Waiting.TheVariants.{Waits}
use Rattle.input_model.specs.Arguments.{Arguments}
use Rattle.input_model.specs.Input.{with_escapes}
use Rattle.input_model.specs.Unread.{IsWithin}
use Rattle.input_source.specs.Bytes.{backslash, newline, quote}
use Rattle.input_source.specs.Tape.{Tape}
use Rattle.roff_scan.specs.Unread.Calls.{NoNewline, PassesFront}
use Rattle.roff_scan.specs.Unread.Runs.{with_stage_of}
use Rattle.run_model.specs.Reading.{escape_ended}
use Rattle.run_model.specs.Reading.Ends.{due}
use Rattle.run_model.specs.Reading.Items.{PageInput, PageUnread, going_on}
use Rattle.run_model.specs.Reading.Waiting.{waiting_in}
use Rattle.run_model.specs.Registers.{Known}
use Rattle.run_model.specs.Stages.{Turned, stage_of}
use Rattle.run_model.specs.declared.line_state.LineState.{LineState}
use Rattle.run_model.specs.declared.line_state.LineState.TheVariants.{Collecting}
use Rattle.run_model.specs.declared.purpose.Purpose.TheVariants.{Arguments as InArguments, Calling}
use Rattle.read_lines.specs.Reader.State.{ReaderState}

-- where the arguments of a line are read, behind the name of a request or a body
abbrev pub reads_arguments : LineState → Bool
reads_arguments (Collecting (InArguments breaks request)) = true
reads_arguments (Collecting (Calling name)) = true
reads_arguments (_) = false

-- whether a newline is among these bytes
abbrev pub has_newline : List ℕ → Bool
has_newline [] = false
has_newline (b ∷ bytes) = b == newline || has_newline bytes

-- whether these bytes begin with a backslash and a quote
abbrev pub opens_comment : List ℕ → Bool
opens_comment [] = false
opens_comment (b ∷ []) = false
opens_comment (b ∷ c ∷ bytes) = b == backslash && c == quote

-- whether they begin with a comment that a newline among them ends
abbrev pub begins_comment : List ℕ → Bool
begins_comment bytes = opens_comment bytes && has_newline bytes

-- these bytes begin with a comment of so many, and then a newline stands
pub record EndsComment (bytes : List ℕ) (count : ℕ) : Type 0 where
  pub inside : List ℕ
  pub rest : List ℕ
  pub are : bytes ≡ backslash ∷ quote ∷ inside ++ newline ∷ rest
  pub plain : NoNewline inside
  pub counted : count ≡ length inside + 2

-- an input where a comment is half read, and nothing else
abbrev pub in_comment : PageInput → PageInput
in_comment i = with_escapes (Comment ∷ []) i

-- where this is read with such arguments, a comment ends before what stays, and means nothing; what reads it waits for that
pub record LeavesComment (reading : LineState) (a : Arguments) : Type 0 where
  pub ended : (k : Known) (i : PageInput) → i.arguments ≡ a → escape_ended k reading (in_comment i) ≡ going_on (with_escapes [] i) reading
  pub waits : (i : PageInput) → waiting_in reading (in_comment i) ≡ Waits

-- Bytes that came next were read at once up to a newline, and that was taken too, and isn't read yet: they lead to where a comment is half
-- read in front of it, which ends there and means nothing. Nothing is due there, and no count is above its limit.
pub record ReadsComment (gave gives : Tape → Type 0) (r : ReaderState) (before after : PageUnread) : Type 0 where
  pub bytes : List ℕ
  pub turned : Turned before.input.names (stage_of r.reading before.input) bytes (stage_of r.reading (in_comment after.input))
  pub some : 1 ≤ length bytes
  pub plain : NoNewline bytes
  pub passes : PassesFront gave gives (bytes ++ newline ∷ []) (record before { input = with_stage_of after.input before.input }) after
  pub within : IsWithin (record before { input = with_stage_of after.input before.input })
  pub leaves : LeavesComment r.reading after.input.arguments
  pub none_half : after.input.escapes ≡ []
  pub none_due : due r.reading ≡ None
