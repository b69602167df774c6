-- What an environment keeps of its history.
use Rattle.std.specs.Prelude.{◌≡◌, ℕ, ◌+◌, ◌-◌, ◌/◌, ◌<◌, ◌≤◌, ◌^◌, min, Bool, true, false, ◌&&◌, ◌||◌, not, List, [], ◌++◌, length, replicate, Option, Some, None, if◌then◌else◌, ◌==◌}
use Rattle.roff_lines.specs.declared.env.Env.TheInside.{Inside}
use Rattle.page_model.specs.declared.settings.Settings.{Settings}
use Rattle.page_model.specs.declared.glyph.Glyph.{Glyph}
use Rattle.page_model.specs.Glyphs.{glyph_blank, glyph_text, glyph_width, text_width}
use Rattle.page_model.specs.Settings.{fills, counted}
use Rattle.page_model.specs.TabStops.{TabStops}
use Rattle.page_model.specs.Places.{most_place, moved}
use Rattle.page_model.specs.Fitting.{gap_text, may_be_wide}
use Rattle.page_model.specs.Words.{is_closer, is_sentence_mark, ends_sentence_behind, indent_by}
use Rattle.page_model.specs.Lines.{Finished, laid_out, empty_line}
use Rattle.page_model.specs.LastLine.{line_width}

-- an open field: the columns from its tab to its stop, and whether its text has its middle there; its text, and the blanks before
-- the word that its tab stands in
pub record KeptField : Type 0 where
  pub way : ℕ
  pub is_centred : Bool
  pub text : List ℕ
  pub word_blanks : ℕ

-- what is in force, the indent that is pending for one line alone, and the tab stops; the pending line's text and its
-- indent, and whether a word stands in it; the open word's text, and whether there is one; the blanks before it; what the
-- line of the input has so far, the place on it, and whether it is interrupted; the text of the line that was finished last,
-- and its width. While a field is open no word is, the word's text is that up to the field's tab, and the blanks are those of a gap
-- at the field's end.
pub record Kept : Type 0 where
  pub cap : ℕ
  pub settings : Settings
  pub temporary_indent : Option ℕ
  pub stops : TabStops
  pub line : List ℕ
  pub indent : ℕ
  pub has_line : Bool
  pub word : List ℕ
  pub field : Option KeptField
  pub is_open : Bool
  pub blanks : ℕ
  pub has_glyph : Bool
  pub ends_sentence : Bool
  pub place : ℕ
  pub is_interrupted : Bool
  pub finished : List ℕ
  pub last_width : ℕ

-- what is kept where the text of the open field, if one is open, stands in the open word, at its tab
abbrev pub with_field_left : Kept → Kept
with_field_left k =
    elim k.field [
      | None ↦ k
      | Some f ↦ record k { word = k.word ++ f.text; field = None; is_open = true; blanks = f.word_blanks }
    ]

-- the pending line's length in bytes, the open word included, where no field is open
abbrev pub length_of_words : Kept → ℕ
length_of_words k = length k.line + (if k.is_open && k.has_line then k.blanks else 0) + length k.word

-- the same with the text of the open field
abbrev pub kept_length : Kept → ℕ
kept_length k = length_of_words (with_field_left k)

-- the field that the fields of an environment keep, if one is open
abbrev pub field_kept : Inside → Option KeptField
field_kept a =
    if a.room == 0
    then Some (record { way = a.field_way; is_centred = a.is_field_centred; text = a.field.text; word_blanks = a.word_blanks })
    else None

-- what the fields keep
abbrev pub kept_by : Inside → Kept
kept_by a = record {
  cap = a.cap;
  settings = a.settings;
  temporary_indent = a.temporary_indent;
  stops = a.stops;
  line = a.line.text;
  indent = a.indent;
  has_line = a.has_line;
  word = a.word.text;
  field = field_kept a;
  is_open = a.is_open;
  blanks = a.blanks;
  has_glyph = a.has_glyph;
  ends_sentence = a.ends_sentence;
  place = a.place;
  is_interrupted = a.is_interrupted;
  finished = a.finished.text;
  last_width = a.last_width;
}

-- each buffer has the limit's room, an open word has a gap, and the pending line is within the limit; there is no room for glyphs
-- where a field is open, and else one byte more than the limit
pub record IsSound (a : Inside) : Type 0 where
  pub cap : a.cap < 2 ^ 32
  pub room : (a.room == 0) ≡ false → a.room ≡ a.cap + 1
  pub line_room : a.line.room ≡ a.cap
  pub word_room : a.word.room ≡ a.cap
  pub field_room : a.field.room ≡ a.cap
  pub finished_room : a.finished.room ≡ a.cap
  pub blanks : a.blanks ≤ 2 ^ 33
  pub word_blanks : a.word_blanks ≤ 2 ^ 33
  pub gap : a.is_open ≡ true → 0 < a.blanks
  pub word_gap : (a.room == 0) ≡ true → 0 < a.word_blanks
  pub none_open : (a.room == 0) ≡ true → a.is_open ≡ false
  pub glyph_in_field : (a.room == 0) ≡ true → a.has_glyph ≡ true
  pub no_field : (a.room == 0) ≡ false → a.field.text ≡ []
  pub place : a.place ≤ most_place
  pub no_line : a.has_line ≡ false → a.line.text ≡ []
  pub no_word : a.is_open ≡ false → (a.room == 0) ≡ false → a.word.text ≡ []
  pub within : kept_length (kept_by a) ≤ a.cap

-- the blanks before the open word, or before one that begins now; an open word has some
abbrev pub begun_blanks : Kept → ℕ
begun_blanks k = if k.blanks == 0 then (if k.ends_sentence then 2 else 1) else k.blanks

-- whether a sentence ends with the glyphs of the open word: behind none where none is open
abbrev pub ends_in_word : Kept → Bool
ends_in_word k = k.is_open && k.ends_sentence

-- how many bytes of glyphs the limit on the pending line lets through
abbrev pub glyph_room : Kept → ℕ
glyph_room k = k.cap - (length k.line + length k.word + (if k.has_line then begun_blanks k else 0))

-- the pending line's length in bytes with a glyph more in the open word, or in one that begins with it
abbrev pub length_with : Glyph → Kept → ℕ
length_with g k =
    length k.line + (if k.has_line then begun_blanks k else 0) + length k.word + length (glyph_text g)

-- behind a glyph
abbrev pub kept_with_glyph : Glyph → Kept → Kept
kept_with_glyph g k = record k {
  word = k.word ++ glyph_text g;
  is_open = true;
  blanks = begun_blanks k;
  has_glyph = true;
  ends_sentence = if is_closer g then ends_in_word k else is_sentence_mark g;
  place = moved (glyph_width g) k.place;
}

-- behind a tab of no columns that opens a field
abbrev pub with_field_opened : ℕ → Bool → Kept → Kept
with_field_opened way is_centred k = record k {
  field = Some (record { way = way; is_centred = is_centred; text = []; word_blanks = k.blanks });
  is_open = false;
  blanks = 0;
}

-- behind a glyph in a field: a gap in front of it is of the same word
abbrev pub with_glyph_in : Glyph → KeptField → Kept → Kept
with_glyph_in g f k = record k {
  field = Some (record f { text = f.text ++ (replicate k.blanks glyph_blank ++ glyph_text g) });
  blanks = 0;
  has_glyph = true;
  ends_sentence = if is_closer g then k.blanks == 0 && k.ends_sentence else is_sentence_mark g;
  place = moved (glyph_width g) k.place;
}

-- the columns in front of a field's text
abbrev pub kept_motion : KeptField → ℕ
kept_motion f = f.way - (if f.is_centred then text_width f.text / 2 else text_width f.text)

-- the length in bytes with a glyph more, in the open field, if one is open, or in the open word, or in one that begins with it
abbrev pub length_told : Glyph → Kept → ℕ
length_told g k = elim k.field [ None ↦ length_with g k | Some f ↦ kept_length k + k.blanks + length (glyph_text g) ]

-- behind that glyph
abbrev pub with_glyph_told : Glyph → Kept → Kept
with_glyph_told g k = elim k.field [ None ↦ kept_with_glyph g k | Some f ↦ with_glyph_in g f k ]

-- the length in bytes behind the end of the open field, if one is open
abbrev pub length_ended : Kept → ℕ
length_ended k = elim k.field [ None ↦ kept_length k | Some f ↦ kept_length k + kept_motion f ]

-- behind the end of the open field, if one is open
abbrev pub with_field_ended : Kept → Kept
with_field_ended k =
    elim k.field [
      | None ↦ k
      | Some f ↦
          record k {
            word = k.word ++ (replicate (kept_motion f) glyph_blank ++ f.text);
            field = None;
            is_open = true;
            blanks = f.word_blanks;
            place = moved (kept_motion f) k.place;
          }
    ]

-- behind a gap: no more blanks are counted than any line has room for
abbrev pub kept_with_gap : ℕ → Kept → Kept
kept_with_gap n k =
    if not k.has_glyph then record k { blanks = if k.blanks == 0 then n else k.blanks }
    else record k { blanks = if k.is_open then k.blanks else min (k.blanks + n) (2 ^ 33); place = moved n k.place }

-- behind the glyphs of these bytes
abbrev pub with_glyphs : List ℕ → Kept → Kept
with_glyphs bytes k = record k {
  word = k.word ++ bytes;
  is_open = true;
  blanks = begun_blanks k;
  has_glyph = true;
  ends_sentence = ends_sentence_behind bytes (ends_in_word k);
  place = moved (text_width bytes) k.place;
}

-- how many bytes of glyphs the limit on the pending line lets through in the open field
abbrev pub field_room : Kept → ℕ
field_room k = k.cap - (kept_length k + k.blanks)

-- behind the glyphs of these bytes in a field: a gap in front of them is of the same word
abbrev pub with_glyphs_in : List ℕ → KeptField → Kept → Kept
with_glyphs_in bytes f k = record k {
  field = Some (record f { text = f.text ++ (replicate k.blanks glyph_blank ++ bytes) });
  blanks = 0;
  has_glyph = true;
  ends_sentence = ends_sentence_behind bytes (k.blanks == 0 && k.ends_sentence);
  place = moved (text_width bytes) k.place;
}

-- behind those glyphs, in the open field, if one is open
abbrev pub with_glyphs_told : List ℕ → Kept → Kept
with_glyphs_told bytes k = elim k.field [ None ↦ with_glyphs bytes k | Some f ↦ with_glyphs_in bytes f k ]

-- behind words that go into the pending line, with a blank between two of them and one behind the last
abbrev pub with_words : List ℕ → Kept → Kept
with_words text k = record k {
  line = k.line ++ (gap_text k.blanks ++ text);
  word = [];
  is_open = false;
  blanks = 1;
  has_glyph = true;
  ends_sentence = ends_sentence_behind text false;
  place = moved (text_width text + 1) k.place;
}

-- what is in force and what stands before the next glyph has gone into a line
abbrev pub without_word : Kept → Kept
without_word k = record k { word = []; is_open = false; blanks = 0 }

-- a line of the open word alone: the indent that was pending is its
abbrev pub word_as_line : Kept → Kept
word_as_line k = record k {
  line = k.word;
  indent = indent_by k.temporary_indent k.settings;
  has_line = true;
  temporary_indent = None;
}

-- whether the open word fits behind the pending line
abbrev pub word_fits : Kept → Bool
word_fits k = may_be_wide k.settings k.indent (text_width k.line + k.blanks + text_width k.word)

-- the width of the pending line as it is finished, by a word that doesn't fit or else by a break
abbrev pub pending_width : Bool → Kept → ℕ
pending_width by_word k = line_width (laid_out k.settings by_word k.indent k.line)

-- behind a word end
abbrev pub with_word_ended : Kept → Kept
with_word_ended k =
    if not k.is_open then k
    else if not k.has_line then without_word (word_as_line k)
    else if word_fits k then without_word (record k { line = k.line ++ (gap_text k.blanks ++ k.word) })
    else without_word (word_as_line (record k { finished = k.line; last_width = pending_width true k }))

-- whether a word end finishes a line
abbrev pub word_finishes : Kept → Bool
word_finishes k = k.is_open && k.has_line && not (word_fits k)

-- the line that it finishes
abbrev pub finished_by_word : Kept → Option Finished
finished_by_word k = if word_finishes k then Some (laid_out k.settings true k.indent k.line) else None

-- in front of a tab: the open field has ended, if one was open, and the word before a gap at its end
abbrev pub at_tab : Kept → Kept
at_tab k =
    elim k.field [
      | None ↦ k
      | Some f ↦ if k.blanks == 0 then with_field_ended k else record (with_word_ended (with_field_ended k)) { blanks = k.blanks }
    ]

-- the line that this finishes
abbrev pub finished_at_tab : Kept → Option Finished
finished_at_tab k = elim k.field [ None ↦ None | Some f ↦ if k.blanks == 0 then None else finished_by_word (with_field_ended k) ]

-- behind a break
abbrev pub with_line_finished : Kept → Kept
with_line_finished k = record k {
  line = [];
  has_line = false;
  blanks = if k.is_open then k.blanks else 0;
  finished = if k.has_line then k.line else k.finished;
  last_width = if k.has_line then pending_width false k else k.last_width;
}

-- the line that a break finishes
abbrev pub finished_by_break : Kept → Option Finished
finished_by_break k = if k.has_line then Some (laid_out k.settings false k.indent k.line) else None

-- behind the end of a line of the input, before it counts
abbrev pub with_line_ended : Kept → Kept
with_line_ended k =
    let n : Kept = record k { has_glyph = false; ends_sentence = false; place = 0 } in
    if fills k.settings
    then record n { blanks = if not k.is_open && k.has_glyph then (if k.ends_sentence then 2 else 1) else k.blanks }
    else if k.has_line || k.settings.filling then with_line_finished n
    else record (with_line_finished n) { finished = []; last_width = 0 }

-- behind it: one line less is to be centred
abbrev pub with_input_line_ended : Kept → Kept
with_input_line_ended k = record (with_line_ended k) { settings = counted k.settings }

-- the line that the end of a line of the input finishes
abbrev pub finished_by_line_end : Kept → Option Finished
finished_by_line_end k =
    if fills k.settings then None
    else if k.has_line then Some (laid_out k.settings false k.indent k.line)
    else if k.settings.filling then None
    else Some (empty_line k.settings)
