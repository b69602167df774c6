-- The first line of a paragraph's words, beside that of words that are known by their gaps and widths alone.
use Rattle.std.specs.Prelude.{◌≡◌, ℕ, ◌-◌, ◌≤◌, true, List, [], ◌∷◌, length, map, reverse, All}
use Rattle.page_model.specs.declared.settings.Settings.{Settings}
use Rattle.page_model.specs.Glyphs.{text_width}
use Rattle.page_model.specs.Settings.{fills}
use Rattle.page_model.specs.Fitting.{Word, word_text}
use Rattle.roff_lines.specs.declared.fill.Word.{Word as MeasuredWord}
use Rattle.roff_lines.specs.FirstLine.{first_line_count}
use Rattle.law_lines.specs.Filling.{lines_of}

-- a word as it is measured
abbrev pub measured : Word → MeasuredWord
measured w = record { gap = w.gap; width = text_width (word_text w) }

-- the first of some lines, the oldest, nothing where there is none
abbrev pub first_of : List (List Word) → List Word
first_of [] = []
first_of (line ∷ []) = line
first_of (line ∷ before ∷ lines) = first_of (before ∷ lines)

-- a word that ended under these settings, and would begin a line of this indent
pub record EndedUnder (s : Settings) (indent : ℕ) (w : Word) : Type 0 where
  pub under : w.under ≡ s
  pub indented : w.indent ≡ indent

-- The first line of a paragraph's words takes as many of them as they are counted by their gaps and widths, in the measure
-- that its indent leaves.
abbrev pub TakesFirstLine : Settings → ℕ → List Word → Type 0
TakesFirstLine s indent ws =
    fills s ≡ true → indent ≤ s.line_length → All (EndedUnder s indent) ws
    → first_line_count (s.line_length - indent) (map measured (reverse ws)) ≡ length (first_of (lines_of ws))
