-- Lines: how words are filled, and what is finished when (manual, sections 4.1 and 6).
--
-- A line's words are kept as the history is, the newest first.
use Rattle.std.specs.Prelude.{ℕ, ◌+◌, ◌-◌, ◌/◌, Bool, true, false, not, ◌&&◌, List, [], length, Option, Some, None, if◌then◌else◌, ◌==◌}
use Rattle.page_model.specs.declared.settings.Settings.{Settings}
use Rattle.page_model.specs.declared.settings.AdjustMode.TheVariants.{Left, Right, Centre, Both}
use Rattle.page_model.specs.Glyphs.{text_width, gaps_in}
use Rattle.page_model.specs.Settings.{fills}
use Rattle.page_model.specs.Events.{Event, WordEnd, LineEnd, Break, History, settings_after}
use Rattle.page_model.specs.Fitting.{Word, word_text, line_text, line_indent, fits, last_line}
use Rattle.page_model.specs.Words.{is_empty, has_open_word, blanks, open_word, words}

-- the pending line: what is in no finished line, without the open word
abbrev pub pending_line : History → List Word
pending_line h = last_line (words h)

-- The pending line's length in bytes, the open word included: a byte for each byte of a glyph's
-- text, and one for each blank of the gaps between words.
abbrev pub pending_length : History → ℕ
pending_length h =
    length (line_text (pending_line h))
    + (if has_open_word h && not (is_empty (words h)) then blanks h else 0)
    + length (word_text (open_word h))

-- a finished line, as it is handed out: `lead` columns before the text, `spare` columns to be spread
-- over the gaps, and so many blank lines after it
pub record Finished : Type 0 where
  pub text : List ℕ
  pub lead : ℕ
  pub spare : ℕ
  pub gaps : ℕ
  pub after : ℕ

-- the columns that a line of this indent and text leaves free
abbrev pub free_columns : Settings → ℕ → List ℕ → ℕ
free_columns s indent text = s.line_length - (indent + text_width text)

-- how much later a line starts that is centred, or adjusted on the right or in the centre
abbrev pub late_start : Settings → ℕ → ℕ
late_start s free =
    if not (s.centring == 0) then free / 2
    else if s.filling && s.adjusting
    then elim s.mode [ Left ↦ 0 | Right ↦ free | Centre ↦ free / 2 | Both ↦ 0 ]
    else 0

-- how many columns are spread over the gaps of a line, where both edges are to be even
abbrev pub spread_columns : Settings → ℕ → ℕ → ℕ
spread_columns s free gaps =
    if fills s && s.adjusting && not (gaps == 0)
    then elim s.mode [ Left ↦ 0 | Right ↦ 0 | Centre ↦ 0 | Both ↦ free ]
    else 0

-- a line of this indent and text as it is finished: by a word that didn't fit, or else by a break,
-- behind which no columns are spread
abbrev pub laid_out : Settings → Bool → ℕ → List ℕ → Finished
laid_out s by_word indent text = record {
  text = text;
  lead = indent + late_start s (free_columns s indent text);
  spare = if by_word then spread_columns s (free_columns s indent text) (gaps_in text) else 0;
  gaps = gaps_in text;
  after = s.spacing - 1;
}

-- the same of a line's words
abbrev pub line_laid_out : Settings → Bool → List Word → Finished
line_laid_out s by_word line = laid_out s by_word (line_indent line) (line_text line)

-- a line with nothing in it
abbrev pub empty_line : Settings → Finished
empty_line s = record { text = []; lead = 0; spare = 0; gaps = 0; after = s.spacing - 1 }

-- the line that an event finishes, if it finishes one
abbrev pub finished_in : History → Event → Option Finished
-- a word that doesn't fit finishes the line before it
finished_in h WordEnd =
    if has_open_word h && not (is_empty (words h)) && not (fits (pending_line h) (open_word h))
    then Some (line_laid_out (settings_after h) true (pending_line h))
    else None
-- where words aren't measured each line's end does, and without filling a line without a word is empty
finished_in h LineEnd =
    if fills (settings_after h) then None
    else if is_empty (words h) then (if (settings_after h).filling then None else Some (empty_line (settings_after h)))
    else Some (line_laid_out (settings_after h) false (pending_line h))
-- a break finishes what is pending
finished_in h Break =
    if is_empty (words h) then None else Some (line_laid_out (settings_after h) false (pending_line h))
finished_in h (_) = None
