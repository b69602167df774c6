-- Laws of control lines that call a body with escapes among their arguments (manual, sections 7 and 7.3).
use Rattle.std.specs.Prelude.{if◌then◌else◌, ◌==◌, ◌≡◌, ℕ, ◌+◌, ◌≤◌, true, false, List, [], ◌∷◌, ◌++◌, decimal, length, map, fold, ⊤}
use Rattle.roff_num.specs.declared.limits.Limits.{Limits}
use Rattle.roff_num.specs.declared.short_name.ShortName.{ShortName}
use Rattle.input_model.specs.Arguments.{Arguments, arguments_read, is_behind_quote, no_arguments, settled, with_unit}
use Rattle.input_escapes.specs.declared.open_escape.CopyUnit.{CopyUnit}
use Rattle.input_escapes.specs.declared.open_escape.CopyUnit.TheVariants.{Byte, Kept}
use Rattle.input_source.specs.Bytes.{backslash, dot, tab}
use Rattle.input_source.specs.Tape.{Tape, OneByte, items_then}
use Rattle.input_model.specs.Input.{Ahead, ByteAhead, depth, lines_taken, pushed}
use Rattle.law_escapes.specs.Parts.{AreParts, Escape, IsOnlyCopied, Measured, Part, Written, bytes_of, cost_of_texts, known_behind_part, registers_behind, rewritten}
use Rattle.law_reading.specs.CallLaws.{BeginsLine, with_call}
use Rattle.law_reading.specs.InterpolationLaws.{text_named}
use Rattle.law_reading.specs.WidthLaws.{text_units}
use Rattle.law_reading.specs.WordCalls.{NamesBody, call_with}
use Rattle.run_model.specs.Reading.Items.{PageInput}
use Rattle.run_model.specs.Registers.{Known}
use Rattle.run_model.specs.Run.{State, after, known}
use Rattle.run_model.specs.Within.{IsWithin}
use Rattle.run_model.specs.PageEvents.{PageEvent}

-- the unit that copy mode makes of a backslash and the byte behind it: a byte, or an escape that stays
abbrev pub unit_behind : ℕ → CopyUnit
unit_behind b =
    if b == backslash then Byte backslash else if b == dot then Byte dot else if b == 116 then Byte tab else Kept b

-- the units of bytes without interpolations and comments
abbrev pub units_of : List ℕ → List CopyUnit
units_of [] = []
units_of (b ∷ []) = Byte b ∷ []
units_of (b ∷ c ∷ bytes) = if b == backslash then unit_behind c ∷ units_of bytes else Byte b ∷ units_of (c ∷ bytes)

-- the arguments behind a part of a line: those behind its units, or behind the units of a text, whose first one isn't the second
-- quote of two
abbrev pub behind_part : Known → PageInput → Arguments → Part → Arguments
behind_part k i a (Written bytes) = fold with_unit a (units_of bytes)
behind_part k i a (Escape purpose name bytes) = fold with_unit (settled a) (units_of (text_named k i purpose name))
behind_part k i a (Measured delimiter text) = fold with_unit (settled a) (units_of (decimal (text_units text)))

-- and behind several
abbrev pub behind_parts : Known → PageInput → Arguments → List Part → Arguments
behind_parts k i a [] = a
behind_parts k i a (part ∷ parts) = behind_parts (known_behind_part k part) i (behind_part k i a part) parts

-- the arguments that the parts of a line are read as
abbrev pub parts_read_as : Known → PageInput → List Part → List (List ℕ)
parts_read_as k i parts = arguments_read (behind_parts k i no_arguments parts)

-- there is room for what is read of a line, beside all that is held and stands ahead, and for one text more
pub record HasRoomForTexts (l : Limits) (s : State) (read : List ℕ) : Type 0 where
  pub beside : pushed s.input + length read ≤ l.stack
  pub deep : depth s.input + 1 ≤ l.depth

-- A body that a line calls gets the first nine of the arguments that the line is read as, each escape as its text. Each byte of
-- the line and of those texts is a step, and costs one; so does each text's end. Registers are stepped as their escapes say.
abbrev pub BodiesGetTheTextsRead : Type 0
BodiesGetTheTextsRead =
    (l : Limits) (s : State) (control : ℕ) (name : ShortName) (body : List ℕ) (parts : List Part)
    (rest : List (Ahead PageEvent)) →
    BeginsLine s → NamesBody s.input.names control name body → AreParts true IsOnlyCopied (known s) s.input parts →
    let line : List ℕ = call_with control name (bytes_of parts) in
    let cost : ℕ = length line + cost_of_texts (known s) s.input parts in
    s.input.ahead ≡ map ByteAhead line ++ rest →
    let behind : PageInput = record s.input { ahead = rest; charge = s.input.charge + cost } in
    let called : State =
    record s {
      registers = registers_behind s.registers parts;
      input = with_call body (parts_read_as (known s) s.input parts) behind;
    } in
    HasRoomForTexts l s (rewritten (known s) s.input parts) → IsWithin l s → IsWithin l called → after l cost s ≡ called

-- and so it is where the line stands in the source itself, with nothing ahead of it
abbrev pub BodiesOfTheSourceGetTheTextsRead : Type 0
BodiesOfTheSourceGetTheTextsRead =
    (l : Limits) (s : State) (control : ℕ) (name : ShortName) (body : List ℕ) (parts : List Part) (tape : Tape) →
    BeginsLine s → NamesBody s.input.names control name body → AreParts true IsOnlyCopied (known s) s.input parts →
    s.input.ahead ≡ [] →
    let line : List ℕ = call_with control name (bytes_of parts) in
    let cost : ℕ = length line + cost_of_texts (known s) s.input parts in
    s.tape ≡ items_then (map OneByte line) tape →
    let behind : PageInput = record (lines_taken line s.input) { charge = s.input.charge + cost } in
    let called : State =
    record s {
      tape = tape;
      registers = registers_behind s.registers parts;
      input = with_call body (parts_read_as (known s) s.input parts) behind;
    } in
    HasRoomForTexts l s (rewritten (known s) s.input parts) → IsWithin l s → IsWithin l called → after l cost s ≡ called

-- no escape stands behind the quote that closes an argument, where a line in such parts is read behind these arguments
abbrev pub NoneBehindQuote : Known → PageInput → Arguments → List Part → Type 0
NoneBehindQuote k i a [] = ⊤
NoneBehindQuote k i a (Written bytes ∷ parts) = NoneBehindQuote k i (behind_part k i a (Written bytes)) parts
NoneBehindQuote k i a (part ∷ parts) =
    (is_behind_quote a.place ≡ false) × NoneBehindQuote (known_behind_part k part) i (behind_part k i a part) parts

-- then it is read as the line that has the texts in the places of the escapes
abbrev pub LinesAreReadAsRewritten : Type 0
LinesAreReadAsRewritten =
    (k : Known) (i : PageInput) (parts : List Part) → AreParts true IsOnlyCopied k i parts →
    NoneBehindQuote k i no_arguments parts →
    parts_read_as k i parts ≡ arguments_read (fold with_unit no_arguments (units_of (rewritten k i parts)))
