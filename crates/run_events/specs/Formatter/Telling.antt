-- How the formatter tells bytes of a text line that stand in front.
use Rattle.std.specs.Prelude.{◌≡◌, ℕ, ◌+◌, ◌<◌, ◌≤◌, true, List, ◌∷◌, length, take, slice_index_or}
use Rattle.std.specs.List.{AllByRecursion}
use Rattle.roff_num.specs.declared.limits.Limits.{Limits}
use Rattle.page_model.specs.Behind.{pending_length}
use Rattle.page_model.specs.Fields.{is_in_field}
use Rattle.page_model.specs.Telling.{QuietlyTold}
use Rattle.page_model.specs.Queries.{takes_text}
use Rattle.page_model.specs.declared.event.Event.TheVariants.{Print}
use Rattle.page_model.specs.declared.glyph.Glyph.{Glyph}
use Rattle.input_source.specs.Bytes.{is_text_byte}
use Rattle.run_model.specs.Environments.{PageHistory, text_of}
use Rattle.run_state.specs.Composer.Standing.{StandFor}
use Rattle.run_model.specs.Layouts.{layout_of}
use Rattle.run_model.specs.Telling.{page_told}
use Rattle.run_model.specs.declared.event.PageEvent.TheVariants.{Text}
use Rattle.run_events.specs.declared.formatter.Formatter.{Formatter}

-- so many bytes are told at once at the most
abbrev pub most_at_once : ℕ
most_at_once = 128

-- these bytes can be told behind this: they are plain text, none finishes a line, and the pending line stays within its limit
pub record CanBeTold (l : Limits) (h : PageHistory) (bytes : List ℕ) : Type 0 where
  pub text : AllByRecursion (λ b. is_text_byte b ≡ true) bytes
  pub quiet : QuietlyTold l.line bytes (text_of h)

-- So many of these bytes, from the first on, were told to the environment in force, and what is read stays: they are plain text,
-- none finishes a line, and the pending line stays within its limit. Before the first page none is told; then no more of those that are
-- told at once could be, but where a field is open and a blank comes next.
pub record TellsFront (front : List ℕ) (count : ℕ) (old new : Formatter) : Type 0 where
  pub few : count ≤ length front
  pub text : AllByRecursion (λ b. is_text_byte b ≡ true) (take count front)
  pub takes : (l : Limits) (h : PageHistory) → StandFor l h old.composer → 1 ≤ count → takes_text (layout_of h) ≡ true
  pub quiet : (l : Limits) (h : PageHistory) → StandFor l h old.composer → QuietlyTold l.line (take count front) (text_of h)
  pub stands : (l : Limits) (h : PageHistory) → StandFor l h old.composer → StandFor l (page_told (take count front) h) new.composer
  pub most : (l : Limits) (h : PageHistory) → StandFor l h old.composer → takes_text (layout_of h) ≡ true → count < most_at_once → count < length front
      → CanBeTold l h (take (count + 1) front) → (is_in_field (text_of h) ≡ true) × (slice_index_or front count 0 ≡ 32)

-- This glyph was printed in the environment in force, and nothing else changed: no page begins with it, and the pending line stays within
-- its limit.
pub record TellsGlyph (glyph : Glyph) (old new : Formatter) : Type 0 where
  pub takes : (l : Limits) (h : PageHistory) → StandFor l h old.composer → takes_text (layout_of h) ≡ true
  pub within : (l : Limits) (h : PageHistory) → StandFor l h old.composer → pending_length (Print glyph ∷ text_of h) ≤ l.line
  pub stands : (l : Limits) (h : PageHistory) → StandFor l h old.composer → StandFor l (Text (Print glyph) ∷ h) new.composer
