-- Bytes of a text line that stand behind a glyph: they are told, and what is read stays (manual, section 4.1).
use Rattle.std.specs.Prelude.{◌≡◌, ℕ, true, List, [], ◌∷◌, if◌then◌else◌, ◌==◌}
use Rattle.page_model.specs.declared.event.Event.TheVariants.{Print, WordEnd, Gap}
use Rattle.page_model.specs.declared.glyph.Glyph.TheVariants.{Printed}
use Rattle.input_source.specs.Bytes.{is_text_byte}
use Rattle.run_model.specs.Environments.{PageHistory}
use Rattle.run_model.specs.Reading.{byte_taking}
use Rattle.run_model.specs.Reading.Items.{PageInput, meaning_events}
use Rattle.run_model.specs.Registers.{Known}
use Rattle.run_model.specs.Requests.{PageEvent, Text}
use Rattle.run_model.specs.declared.line_state.LineState.{LineState}

-- the events of such a byte: a blank ends a word, and a gap of it follows
abbrev pub byte_events : ℕ → List PageEvent
byte_events b = if b == 32 then Text WordEnd ∷ Text (Gap 1) ∷ [] else Text (Print (Printed b)) ∷ []

-- a byte means these where this is read and nothing is half read, and what is read stays
abbrev pub Prints : LineState → ℕ → Type 0
Prints reading b = (k : Known) (i : PageInput) → i.escapes ≡ [] → byte_taking k reading i b ≡ meaning_events i reading (byte_events b)

-- each byte of plain text is told as it is, and leaves what is read as it is
abbrev pub PrintsText : LineState → Type 0
PrintsText reading = (b : ℕ) → is_text_byte b ≡ true → Prints reading b

-- a page's history, and such a byte behind it
abbrev pub byte_told : ℕ → PageHistory → PageHistory
byte_told b h = if b == 32 then Text (Gap 1) ∷ Text WordEnd ∷ h else Text (Print (Printed b)) ∷ h

-- and such bytes, one after another
abbrev pub page_told : List ℕ → PageHistory → PageHistory
page_told [] h = h
page_told (b ∷ bytes) h = page_told bytes (byte_told b h)
