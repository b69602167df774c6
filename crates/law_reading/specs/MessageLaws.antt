-- What the lines of `.tm` and `.ab` tell (manual, section 20).
use Rattle.std.specs.Prelude.{◌≡◌, ℕ, Bool, true, false, List, [], ◌∷◌, ◌++◌, All, if◌then◌else◌, ◌==◌}
use Rattle.roff_num.specs.ShortNames.{name_bytes}
use Rattle.roff_num.specs.declared.short_name.ShortName.{ShortName}
use Rattle.input_model.specs.Arguments.{no_arguments}
use Rattle.input_source.specs.Bytes.{blank, newline, behind_blanks}
use Rattle.roff_store.specs.Named.{Named}
use Rattle.roff_store.specs.Texts.{Entry}
use Rattle.law_reading.specs.CallLaws.{IsControl}
use Rattle.law_reading.specs.InterpolationLaws.{StandsForItself}
use Rattle.law_reading.specs.Quoting.{taking_all}
use Rattle.run_model.specs.Reading.ControlLines.{BelongsToName}
use Rattle.run_model.specs.Reading.Items.{PageInput, Taking}
use Rattle.run_model.specs.Reading.Messages.{message_text_read}
use Rattle.run_model.specs.Registers.{Known}
use Rattle.run_model.specs.Requests.{called_by, row_of}
use Rattle.run_model.specs.declared.line_state.LineState.TheVariants.{Told, Collecting}
use Rattle.run_model.specs.declared.purpose.Purpose.TheVariants.{Telling}
use Rattle.run_model.specs.declared.request.Called.TheVariants.{Request as ARequest}
use Rattle.run_model.specs.declared.request.LineReading.TheVariants.{ByMessage}
use Rattle.run_model.specs.declared.request.Request.{Request}

-- a line tells a message: its name stands for a request that does so, and goes on
pub record HasMessage (names : Named Entry) (control : ℕ) (name : ShortName) : Type 0 where
  pub begins : IsControl control
  pub is_name : All BelongsToName (name_bytes name)
  pub of_request : Request
  pub stands_for : called_by name names ≡ ARequest of_request
  pub reads_message : (row_of of_request).line ≡ ByMessage false

-- the line of a message has ended, and this is its text
pub record TellsText (aborts : Bool) (text : List ℕ) (t : Taking) : Type 0 where
  pub reading : t.reading ≡ Told aborts
  pub told : message_text_read t.input ≡ text

-- a line of bytes that stand for themselves tells them, without the blanks in front: quotes stay
abbrev pub MessagesAreTheirTexts : Type 0
MessagesAreTheirTexts =
    (k : Known) (aborts : Bool) (i : PageInput) (text : List ℕ) → i.escapes ≡ [] → i.arguments ≡ no_arguments →
    All StandsForItself text →
    TellsText aborts (behind_blanks text) (taking_all k (Collecting (Telling aborts true)) i (text ++ newline ∷ []))
