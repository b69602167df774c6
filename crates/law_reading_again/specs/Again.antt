-- The law of reading again: what a diversion set aside comes back line for line (manual, section 7.3).
use Rattle.std.specs.Prelude.{◌≡◌, ℕ, ◌≤◌, Bool, true, false, not, ◌||◌, List, [], ◌∷◌, length, map, nat_lt, None, ◌==◌}
use Rattle.std.specs.List.{AllByRecursion}
use Rattle.roff_num.specs.declared.limits.Limits.{Limits}
use Rattle.roff_num.specs.declared.short_name.ShortName.{ShortName}
use Rattle.input_model.specs.Input.{lines_taken}
use Rattle.page_model.specs.DivertedText.{diverted_lines}
use Rattle.page_model.specs.Fields.{plain}
use Rattle.page_model.specs.Layout.{Box, Lined, Empty, Layout, first_layout}
use Rattle.page_model.specs.Words.{open_glyphs, words}
use Rattle.page_model.specs.declared.event.Event.TheVariants.{Set}
use Rattle.page_model.specs.declared.layout_event.LayoutEvent.TheVariants.{Divert}
use Rattle.page_model.specs.declared.settings.Param.TheVariants.{Filling}
use Rattle.run_model.specs.Environments.{text_of}
use Rattle.run_model.specs.Output.{layout_of, written}
use Rattle.run_model.specs.PageEvents.{PageHistory}
use Rattle.run_model.specs.Run.{State, after, blank_state, first_input}
use Rattle.run_model.specs.declared.event.PageEvent.TheVariants.{Page, Text}
use Rattle.input_source.specs.Tape.{Tape, OneByte, items_then}

-- a byte that is printed as it is, or a blank: no control byte
abbrev pub is_printable : ℕ → Bool
is_printable b = not (nat_lt b 32 || b == 127)

-- a box of such bytes alone, if it has a text
abbrev pub Prints : Box → Type 0
Prints (Lined text) = AllByRecursion (λ b. is_printable b ≡ true) text
Prints Empty = Unit {0}

-- so are these
abbrev pub AllPrint : List Box → Type 0
AllPrint boxes = AllByRecursion Prints boxes

-- a box's length in bytes
abbrev pub box_length : Box → ℕ
box_length (Lined text) = length text
box_length Empty = 0

-- boxes, the newest first, as the text of a diversion has them
abbrev pub again_text : List Box → List ℕ
again_text boxes = diverted_lines boxes

-- the limits have room for their text: it is taken once, and set aside once more, line by line
pub record Suffices (l : Limits) (boxes : List Box) : Type 0 where
  pub bytes : length (again_text boxes) ≤ l.bytes
  pub store : length (again_text boxes) ≤ l.store
  pub line : AllByRecursion (λ box. box_length box ≤ l.line) boxes

-- a layout in which a diversion of this name is open, within any others, and these boxes are in it
abbrev pub with_diverted : ShortName → Bool → List Box → Layout → Layout
with_diverted name appends boxes L = record L {
  diversions = record { name = name; appends = appends; boxes = boxes; trap = None; no_space = false } ∷ L.diversions;
}

-- a run that begins in a diversion, without filling, over this tape
abbrev pub again_start : ShortName → Tape → State
again_start name tape = record (blank_state tape) {
  input = record first_input { open_texts = [] ∷ [] };
  history = Text (Set (Filling false)) ∷ Page (Divert name false) ∷ [];
}

-- such a run that has read a text, and goes on with this tape: it told nothing, nothing is half read and nothing to do, and the
-- text that the diversion has is the one that was read
abbrev pub behind_text : ShortName → List ℕ → Tape → PageHistory → State
behind_text name text tape h =
    let start : State = again_start name tape in record start {
      input = record (lines_taken text start.input) { open_texts = text ∷ [] };
      history = h;
    }

-- Text in front of any tape gives these boxes: the run comes to the tape, with a line beginning, and just these are in the
-- diversion. Nothing else was put anywhere, nothing is pending, and nothing was written.
pub record Again (l : Limits) (name : ShortName) (boxes : List Box) (tape : Tape) : Type 0 where
  pub steps : ℕ
  pub history : PageHistory
  pub there :
      after l steps (again_start name (items_then (map OneByte (again_text boxes)) tape)) ≡ behind_text name (again_text boxes) tape history
  pub boxes_are : layout_of history ≡ with_diverted name false boxes first_layout
  pub no_words : words (plain (text_of history)) ≡ []
  pub no_glyphs : open_glyphs (plain (text_of history)) ≡ []
  pub unwritten : written history ≡ []

-- The text of boxes gives just these boxes, if all of their bytes are printed as they are.
abbrev pub ReadsAgain : Type 0
ReadsAgain =
    (l : Limits) (name : ShortName) (boxes : List Box) (tape : Tape) → AllPrint boxes → Suffices l boxes → Again l name boxes tape

-- A run begins so behind the events by which a diversion is opened, and lines aren't filled.
abbrev pub DiversionsBegin : Type 0
DiversionsBegin =
    (l : Limits) (name : ShortName) (tape : Tape) → 1 ≤ l.diversions →
    after l 3 (record (blank_state tape) { to_do = Page (Divert name false) ∷ Text (Set (Filling false)) ∷ [] }) ≡ again_start name tape
