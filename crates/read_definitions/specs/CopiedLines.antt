-- The lines of a definition, or ignored ones, that are copied together (manual, section 7.1).
use Rattle.std.specs.Prelude.{◌≡◌, ◌<◌, ◌≤◌, ℕ, ◌+◌, ◌==◌, Bool, true, false, ◌&&◌, ◌||◌, not, if◌then◌else◌, List, [], ◌∷◌, drop, length, take, Option, None, Some}
use Rattle.input_model.specs.Input.Names.{stored}
use Rattle.input_escapes.specs.EscapeLaws.{begins_reading}
use Rattle.input_source.specs.Bytes.{backslash, dot, is_text_byte, newline, tab}
use Rattle.read_lines.specs.Reader.State.{ReaderState}
use Rattle.read_shortcuts.specs.Runs.{ready_allowed}
use Rattle.read_definitions.specs.declared.copied.Lines.{Lines}
use Rattle.roff_num.specs.declared.short_name.ShortName.{ShortName}
use Rattle.run_model.specs.Reading.Items.{PageUnread}
use Rattle.run_model.specs.TurnsToCome.{begun, turns_to_come}
use Rattle.run_model.specs.declared.line_state.LineState.{LineState}
use Rattle.run_model.specs.declared.line_state.LineState.TheVariants.{Collecting}
use Rattle.run_model.specs.declared.purpose.Purpose.TheVariants.{Defining}

-- a newline or a tab
abbrev pub is_space : ℕ → Bool
is_space b = b == newline || b == tab

-- a byte that is copied, wherever it stands in a line: one of plain text, or one of these
abbrev pub is_copied_byte : ℕ → Bool
is_copied_byte b = is_text_byte b || is_space b

-- a byte whose escape is copied with its backslash: none that begins something to be read, nor one that stands for another byte
abbrev pub is_kept_escape : ℕ → Bool
is_kept_escape b = is_text_byte b && not (begins_reading b || (b == dot || b == 116))

-- the second byte of the mark of the line that ends a definition: a dot, or the first of its name
abbrev pub second_of_mark : Option ShortName → ℕ
second_of_mark None = dot
second_of_mark (Some name) = name.first

-- how many bytes of the mark of the last line stand in front of a line, where it begins: none
abbrev pub matched_at : Bool → Option ℕ
matched_at begins = if begins then Some 0 else None

-- such lines are read, from the beginning of one, or from within one that isn't the last
abbrev pub reads_lines : Lines → LineState
reads_lines lines = Collecting (Defining lines.name lines.appends lines.end (matched_at lines.begins))

-- the lines that are read, if none of the mark was
abbrev pub lines_at : Option ShortName → Bool → Option ShortName → Option ℕ → Option Lines
lines_at name appends end None = Some (record { name = name; appends = appends; end = end; begins = false })
lines_at name appends end (Some matched) =
    if matched == 0 then Some (record { name = name; appends = appends; end = end; begins = true }) else None

abbrev pub lines_read : LineState → Option Lines
lines_read (Collecting (Defining name appends end matched)) = lines_at name appends end matched
lines_read (_) = None

-- whether a byte is a dot where a line begins
abbrev pub is_dot : Bool → ℕ → Bool
is_dot begins b = begins && b == dot

-- Bytes are copied as they stand, from the beginning of a line or from within one, to the same behind them, by the second byte of the
-- mark: behind a dot with which a line begins another byte follows, and behind a backslash one whose escape is kept.
pub data Copies (second : ℕ) : Bool → List ℕ → Bool → Type 0 where
  NoneCopied : (begins : Bool) → Copies second begins [] begins
  ByteCopied : (begins last : Bool) (b : ℕ) (bytes : List ℕ) → is_dot begins b ≡ false → is_copied_byte b ≡ true
      → Copies second (b == newline) bytes last → Copies second begins (b ∷ bytes) last
  EscapeCopied : (begins last : Bool) (b : ℕ) (bytes : List ℕ) → is_kept_escape b ≡ true → Copies second false bytes last
      → Copies second begins (backslash ∷ b ∷ bytes) last
  DotCopied : (last : Bool) (b : ℕ) (bytes : List ℕ) → (b == second) ≡ false → is_copied_byte b ≡ true
      → Copies second (b == newline) bytes last → Copies second true (dot ∷ b ∷ bytes) last

-- whether a byte is copied behind a dot with which a line begins
abbrev pub is_behind_dot : ℕ → ℕ → Bool
is_behind_dot second b = not (b == second) && is_copied_byte b

-- whether the first of these bytes is
abbrev pub goes_on_behind_dot : ℕ → List ℕ → Bool
goes_on_behind_dot second [] = false
goes_on_behind_dot second (b ∷ bytes) = is_behind_dot second b

-- whether the escape of the first of these bytes is
abbrev pub keeps_escape : List ℕ → Bool
keeps_escape [] = false
keeps_escape (b ∷ bytes) = is_kept_escape b

-- whether the first of these bytes is copied
abbrev pub goes_on : ℕ → Bool → List ℕ → Bool
goes_on second begins [] = false
goes_on second begins (b ∷ bytes) =
    if is_dot begins b then goes_on_behind_dot second bytes else if b == backslash then keeps_escape bytes else is_copied_byte b

-- so many of these bytes are copied as they stand, and no more can be
pub record CopiesFirst (second : ℕ) (begins last : Bool) (count : ℕ) (bytes : List ℕ) : Type 0 where
  pub few : count ≤ length bytes
  pub copies : Copies second begins (take count bytes) last
  pub stops : goes_on second last (drop count bytes) ≡ false

-- whether these bytes begin with two backslashes
abbrev pub is_doubled : List ℕ → Bool
is_doubled [] = false
is_doubled (b ∷ []) = false
is_doubled (b ∷ c ∷ bytes) = b == backslash && c == backslash

-- So many of these bytes are copied, and so many of those are kept: all that are copied as they stand, and of two backslashes behind them
-- the first.
pub data CopiesTo (second : ℕ) (begins : Bool) (bytes : List ℕ) : Bool → ℕ → ℕ → Type 0 where
  AsTheyStand : (last : Bool) (count : ℕ) → CopiesFirst second begins last count bytes → is_doubled (drop count bytes) ≡ false
      → CopiesTo second begins bytes last count count
  ThenDoubled : (last : Bool) (count : ℕ) → CopiesFirst second begins last count bytes → is_doubled (drop count bytes) ≡ true
      → CopiesTo second begins bytes false (count + 1) (count + 2)

-- some of these bytes are copied as they stand, if the first of them is
pub record CopiesSome (second : ℕ) (begins last : Bool) (count : ℕ) (bytes : List ℕ) : Type 0 where
  pub few : count ≤ length bytes
  pub copies : Copies second begins (take count bytes) last
  pub none : count ≡ 0 → goes_on second begins bytes ≡ false

-- how many of so many are kept: none if no name gets them
abbrev pub kept_of : Option ShortName → ℕ → ℕ
kept_of None count = 0
kept_of (Some name) count = count

-- Where such lines are read and the source's next byte is the next one, all bytes were taken that stand ready and are copied as they
-- stand, and two backslashes behind them, as many as the limit on bytes allows, if there is room in the store for those that are kept.
pub record TakesLines (lines : Lines) (ready : List ℕ) (before after : PageUnread) : Type 0 where
  pub last : Bool
  pub text : ℕ
  pub count : ℕ
  pub copies : CopiesTo (second_of_mark lines.end) lines.begins (ready_allowed before ready) last text count
  pub taken : stored before.input + kept_of lines.name text ≤ before.limits.store → after.input.charge ≡ before.input.charge + count

-- what is read asks for as many turns as before, and fewer are to come
pub record CopiesOn (old new : ReaderState) (before after : PageUnread) : Type 0 where
  pub begun : begun new.reading ≡ begun old.reading
  pub fewer : turns_to_come after < turns_to_come before
