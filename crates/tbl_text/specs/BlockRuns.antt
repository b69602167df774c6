-- What stands between blanks on a line of a block, as far as it is read.
use Rattle.std.specs.Prelude.{ℕ, ◌+◌, Bool, true, false, List, length, Option, Some, None, if◌then◌else◌, ◌==◌}
use Rattle.page_model.specs.Words.{ends_sentence_behind}
use Rattle.tbl_text.specs.Items.{columns, is_glyph}
use Rattle.tbl_text.specs.BlockWords.{ends_behind}
use Rattle.tbl_text.specs.declared.items.What.{What}
use Rattle.tbl_text.specs.declared.block_words.Run.{Run}
use Rattle.tbl_text.specs.declared.block_words.BlockWord.{BlockWord}

-- nothing, at a place
abbrev pub nothing_at : ℕ → Run
nothing_at at = record { from = at; glyphs = at; width = 0; has_glyph = false; ends_sentence = false }

-- with an item more, which ends at a place
abbrev pub with_item : Run → What → ℕ → Run
with_item run what end =
    if is_glyph what
    then record run {
      glyphs = end;
      width = run.width + columns what;
      has_glyph = true;
      ends_sentence = ends_behind run.ends_sentence what;
    }
    else run

-- with bytes more that print themselves, and end at a place
abbrev pub with_plain : Run → List ℕ → ℕ → Run
with_plain run bytes end = record run {
  glyphs = end;
  width = run.width + length bytes;
  has_glyph = true;
  ends_sentence = ends_sentence_behind bytes run.ends_sentence;
}

-- the word that ends at a place, behind so many blanks
abbrev pub word_by : Run → ℕ → ℕ → BlockWord
word_by run gap to = record {
  breaks = false;
  gap = gap;
  from = run.from;
  to = to;
  glyphs = run.glyphs;
  width = run.width;
  ends_sentence = run.ends_sentence;
}

-- a word as the first one of a line, behind what is known of the word before it
abbrev pub joined_word : Option Bool → BlockWord → BlockWord
joined_word None w = record w { breaks = true }
joined_word (Some ends) w = if w.gap == 0 then record w { gap = if ends then 2 else 1 } else record w { breaks = true }
