-- The law of reading again from the middle of a run: in a diversion within any others, from wherever the bytes come.
use Rattle.std.specs.Prelude.{◌≡◌, ℕ, ◌+◌, ◌≤◌, Bool, false, List, [], ◌∷◌, ◌++◌, length, map, None}
use Rattle.std.specs.List.{AllByRecursion}
use Rattle.roff_num.specs.declared.limits.Limits.{Limits}
use Rattle.roff_num.specs.declared.short_name.ShortName.{ShortName}
use Rattle.input_model.specs.Input.{Ahead, ByteAhead, lines_taken}
use Rattle.input_model.specs.Input.Names.{stored}
use Rattle.page_model.specs.Events.{is_interrupted, settings_after}
use Rattle.page_model.specs.Fields.{plain}
use Rattle.page_model.specs.Layout.{Box, Layout}
use Rattle.page_model.specs.Words.{open_glyphs, temporary_indent, words}
use Rattle.page_model.specs.declared.settings.Settings.{Settings}
use Rattle.run_model.specs.Environments.{environments, text_of}
use Rattle.run_model.specs.ItemsTaken.{TakesItems}
use Rattle.run_model.specs.Output.{layout_of, written}
use Rattle.run_model.specs.PageEvents.{PageEvent, PageHistory}
use Rattle.run_model.specs.Run.{State, after}
use Rattle.run_model.specs.Within.{IsWithin}
use Rattle.run_model.specs.declared.line_state.LineState.TheVariants.{LineStart}
use Rattle.input_source.specs.Tape.{Tape, OneByte, items_then}
use Rattle.law_reading_again.specs.Again.{AllPrint, again_text, box_length, with_diverted}

-- a diversion in which text is read again: its name, and whether it is to be put behind what the name has; the layout around it,
-- the boxes that are in it, the texts of those around it, and its own so far
pub record Spot : Type 0 where
  pub name : ShortName
  pub appends : Bool
  pub layout : Layout
  pub boxes : List Box
  pub older : List (List ℕ)
  pub text : List ℕ

-- the layout where these are in it
abbrev pub laid_at : Spot → List Box → Layout
laid_at p boxes = with_diverted p.name p.appends boxes p.layout

-- nothing that is in force moves a line, or puts lines together
pub record IsPlain (s : Settings) : Type 0 where
  pub unfilled : s.filling ≡ false
  pub uncentred : s.centring ≡ 0
  pub unindented : s.indent ≡ 0
  pub single : s.spacing ≡ 1

-- nothing is pending behind a history: in a field a glyph would be
pub record IsIdle (h : PageHistory) : Type 0 where
  pub no_words : words (plain (text_of h)) ≡ []
  pub no_glyphs : open_glyphs (plain (text_of h)) ≡ []
  pub no_indent : temporary_indent (plain (text_of h)) ≡ None

-- a run stands where a line begins in such a diversion, which has no trap and no no-space mode: nothing moves a line, nothing is
-- pending, no line is to go on, and no line springs a macro as it counts
pub record ReadsPlainly (s : State) (p : Spot) : Type 0 where
  pub takes : TakesItems s
  pub reading : s.reading ≡ LineStart
  pub escapes : s.input.escapes ≡ []
  pub texts : s.input.open_texts ≡ p.older ++ p.text ∷ []
  pub nested : length p.older ≡ length p.layout.diversions
  pub laid : layout_of s.history ≡ laid_at p p.boxes
  pub goes_on : p.layout.is_over ≡ false
  pub plain : IsPlain (settings_after (text_of s.history))
  pub idle : IsIdle s.history
  pub unbroken : is_interrupted (text_of s.history) ≡ false
  pub trapless : (environments s.history).in_force.input_trap ≡ None

-- the limits have room for the text of boxes: it is taken once, and set aside once more, line by line
pub record HasRoomFor (l : Limits) (s : State) (boxes : List Box) : Type 0 where
  pub bytes : s.input.charge + length (again_text boxes) ≤ l.bytes
  pub store : stored s.input + length (again_text boxes) ≤ l.store
  pub line : AllByRecursion (λ box. box_length box ≤ l.line) boxes

-- the run comes to this state, behind some history: just these boxes are put in the diversion behind those that were there, nothing
-- is pending, and nothing was written
pub record ReadAt (l : Limits) (s : State) (p : Spot) (boxes : List Box) (behind : PageHistory → State) : Type 0 where
  pub steps : ℕ
  pub history : PageHistory
  pub there : after l steps s ≡ behind history
  pub boxes_are : layout_of history ≡ laid_at p (boxes ++ p.boxes)
  pub idle : IsIdle history
  pub unwritten : written history ≡ written s.history

-- A text gives these boxes wherever it stands ahead of the source, as where a line calls it by its name: it is taken, the diversion's
-- text gets it, and nothing else changes.
abbrev pub ComesBack : Limits → List Box → List ℕ → Type 0
ComesBack l boxes text =
    (s : State) (p : Spot) (rest : List (Ahead PageEvent)) → ReadsPlainly s p → IsWithin l s → HasRoomFor l s boxes →
    s.input.ahead ≡ map ByteAhead text ++ rest →
    ReadAt l s p boxes (λ h. record s {
      input = record s.input { ahead = rest; charge = s.input.charge + length text; open_texts = p.older ++ (p.text ++ text) ∷ [] };
      history = h;
    })

-- and so it does where it stands in the source itself, with nothing ahead of it
abbrev pub ComesBackFromTheSource : Limits → List Box → List ℕ → Type 0
ComesBackFromTheSource l boxes text =
    (s : State) (p : Spot) (tape : Tape) → ReadsPlainly s p → IsWithin l s → HasRoomFor l s boxes → s.input.ahead ≡ [] →
    s.tape ≡ items_then (map OneByte text) tape →
    ReadAt l s p boxes (λ h. record s {
      tape = tape;
      input = record (lines_taken text s.input) { open_texts = p.older ++ (p.text ++ text) ∷ [] };
      history = h;
    })

-- So does the text of boxes, if all of their bytes are printed as they are.
abbrev pub BoxesComeBack : Type 0
BoxesComeBack = (l : Limits) (boxes : List Box) → AllPrint boxes → ComesBack l boxes (again_text boxes)

abbrev pub BoxesComeBackFromTheSource : Type 0
BoxesComeBackFromTheSource = (l : Limits) (boxes : List Box) → AllPrint boxes → ComesBackFromTheSource l boxes (again_text boxes)
