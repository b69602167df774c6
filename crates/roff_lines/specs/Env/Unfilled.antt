-- Text lines that are finished as they stand, where words aren't measured.
use Rattle.std.specs.Prelude.{◌≡◌, ℕ, ◌+◌, ◌-◌, ◌<◌, ◌≤◌, false, List, [], ◌++◌, length, take, None, slice_index_or, Some}
use Rattle.page_model.specs.declared.event.Event.TheVariants.{LineEnd, WordEnd}
use Rattle.page_model.specs.Glyphs.{gaps_in}
use Rattle.page_model.specs.Settings.{fills, counted}
use Rattle.page_model.specs.Words.{indent_by}
use Rattle.page_model.specs.Lines.{Finished, laid_out}
use Rattle.page_model.specs.LastLine.{line_width}
use Rattle.roff_lines.specs.Env.Kept.{Kept}
use Rattle.roff_lines.specs.Env.Stands.{Finishes, StandsBehind}
use Rattle.roff_lines.specs.Env.Tells.{IsRun, Tells}

-- so many bytes in front are words with one blank between two of them, and so many gaps
pub record AreWords (bytes : List ℕ) (count gaps : ℕ) : Type 0 where
  pub some : 0 < count
  pub within : count ≤ length bytes
  pub run : IsRun bytes count
  pub last : slice_index_or bytes (count - 1) 0 ≡ 32 → ⊥
  pub gaps_are : gaps_in (take count bytes) ≡ gaps

-- no field is open, words aren't measured, and none stands in the pending line
pub record PutsLines (k : Kept) : Type 0 where
  pub no_field : k.field ≡ None
  pub unfilled : fills k.settings ≡ false
  pub no_line : k.has_line ≡ false
  pub no_text : k.line ≡ []

-- such words may stand in a line that is finished with the end of a line of the input, which comes behind them
pub record EndsLine (bytes : List ℕ) (count gaps : ℕ) (k : Kept) : Type 0 where
  pub words : AreWords bytes count gaps
  pub puts : PutsLines k
  pub room : length k.word + count ≤ k.cap

-- These bytes are told, and then the end of the open word finishes no line, and that of the line of the input this one: whatever
-- history the old environment stands for, the new one stands for it with all of this.
pub record EndsAtOnce (bytes : List ℕ) (line : Finished) (old new : Kept) : Type 0 where
  pub told : Kept
  pub tells : Tells bytes old told
  pub ended : Kept
  pub no_field : ended.field ≡ None
  pub word_end : StandsBehind told WordEnd ended
  pub quiet : Finishes told WordEnd None
  pub line_end : StandsBehind ended LineEnd new
  pub finishes : Finishes ended LineEnd (Some line)

-- the line that is finished so, with this text behind that of the open word
abbrev pub line_of : List ℕ → Kept → Finished
line_of text k = laid_out k.settings false (indent_by k.temporary_indent k.settings) (k.word ++ text)

-- and what is kept behind it
abbrev pub with_line_put : List ℕ → Kept → Kept
with_line_put text k = record k {
  settings = counted k.settings;
  temporary_indent = None;
  line = [];
  indent = indent_by k.temporary_indent k.settings;
  has_line = false;
  word = [];
  is_open = false;
  blanks = 0;
  has_glyph = false;
  ends_sentence = false;
  place = 0;
  finished = k.word ++ text;
  last_width = line_width (line_of text k);
}
