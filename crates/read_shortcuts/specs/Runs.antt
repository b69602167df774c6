-- Runs: bytes that do alike where something is read.
use Rattle.std.specs.Prelude.{◌≡◌, ℕ, ◌+◌, ◌-◌, ◌==◌, ◌&&◌, Bool, true, false, if◌then◌else◌, not, nat_lt, min, List, [], length, take, take_while, None, Option, Some}
use Rattle.input_model.specs.Unread.{asks_to_take}
use Rattle.run_model.specs.Reading.Items.{PageUnread}
use Rattle.input_source.specs.Bytes.{blank, is_argument_byte, is_passed, is_text_byte}
use Rattle.input_escapes.specs.OpenEscape.{OpenEscape}
use Rattle.run_model.specs.Reading.{Passes}
use Rattle.run_model.specs.Reading.Ends.{due}
use Rattle.run_model.specs.Reading.TextLines.{most_leading}
use Rattle.run_model.specs.Stages.{Adds, EndsByNewline, Holds, HoldsIfFewer, Ignores, ReadsHalves, TakesHalf}
use Rattle.run_model.specs.Telling.{Prints}
use Rattle.run_model.specs.declared.line_state.LineState.{LineState}
use Rattle.run_model.specs.declared.line_state.LineState.TheVariants.{Branch, Text as InText, Title, Collecting}
use Rattle.run_model.specs.declared.purpose.Purpose.TheVariants.{Defining, StringName, StringText}
use Rattle.read_lines.specs.Reader.State.{ReaderState}
use Rattle.roff_scan.specs.declared.run_kind.RunKind.{RunKind}
use Rattle.roff_scan.specs.declared.run_kind.RunKind.TheVariants.{Text, Blanks, Arguments, CallArguments, Name, Condition, Definition, Ignored, Dropped}

-- blanks only count where this is read and nothing is half read: in front of the first glyph of a text line, behind another blank
abbrev pub counts_blanks : LineState → Bool
counts_blanks (InText line) = not line.has_glyph && nat_lt 0 line.leading
counts_blanks (_) = false

-- how many leading blanks so many more make
abbrev pub blanks_counted : ℕ → ℕ → ℕ
blanks_counted count leading = if count == 0 then leading else min (leading + count) most_leading

-- bytes of a run of this kind do this where this is read
abbrev pub Does : RunKind → LineState → Type 0
Does Text reading = (b : ℕ) → is_text_byte b ≡ true → Prints reading b
Does Blanks reading = counts_blanks reading ≡ true
Does Arguments reading = (b : ℕ) → is_argument_byte b ≡ true → Holds reading b
Does (CallArguments most) reading = (b : ℕ) → is_argument_byte b ≡ true → HoldsIfFewer (Some most) reading b
Does Name reading = ReadsHalves reading
Does Condition reading = TakesHalf reading
Does Definition reading = (b : ℕ) → is_text_byte b ≡ true → Adds reading b
Does Ignored reading = (b : ℕ) → is_text_byte b ≡ true → Ignores reading b
Does (Dropped within_block) reading =
    ((b : ℕ) → is_passed within_block b ≡ true → Passes reading b) × (within_block ≡ false → EndsByNewline reading)

-- what may be half read where it is taken: names and conditions are, and nothing else
abbrev pub MayBeHalfRead : RunKind → List OpenEscape → Type 0
MayBeHalfRead Name half = Unit {0}
MayBeHalfRead Condition half = Unit {0}
MayBeHalfRead (_) half = half ≡ []

-- where this is read, and this is half read, bytes in front may be taken as a run of this kind
pub record IsRun (kind : RunKind) (reading : LineState) (half : List OpenEscape) : Type 0 where
  pub does : Does kind reading
  pub half_read : MayBeHalfRead kind half
  pub none_due : due reading ≡ None

-- the run of bytes that are held in arguments, as long as fewer than so many are whole, where there is a bound
abbrev pub run_holding : Option ℕ → RunKind
run_holding None = Arguments
run_holding (Some most) = CallArguments most

-- a run of this kind leaves the reader as it was, but for one of blanks
abbrev pub KeepsReader : RunKind → ReaderState → ReaderState → Type 0
KeepsReader Blanks old new = Unit {0}
KeepsReader (_) old new = new ≡ old

-- where this is read, bytes in front may be taken together that are no run: those of a string's name, of the beginning of its text, of
-- the lines of a definition, or of a title
abbrev pub reads_apart : LineState → Bool
reads_apart (Collecting (StringName appends)) = true
reads_apart (Collecting (StringText name appends is_front)) = true
reads_apart (Collecting (Defining name appends end matched)) = true
reads_apart (Title delimiter) = true
reads_apart (_) = false

-- where the source's next byte is the next one, these bytes were taken, and no more
abbrev pub TakesReady : List ℕ → PageUnread → PageUnread → Type 0
TakesReady bytes before after = asks_to_take before ≡ true → after.input.charge ≡ before.input.charge + length bytes

-- of the bytes that stand ready those that the limit on bytes allows
abbrev pub ready_allowed : PageUnread → List ℕ → List ℕ
ready_allowed u ready = take (u.limits.bytes - u.input.charge) ready

-- the blanks that are taken together where a branch begins
abbrev pub branch_blanks : LineState → List ℕ → List ℕ
branch_blanks Branch bytes = take_while (λ b. b == blank) bytes
branch_blanks (_) bytes = []
