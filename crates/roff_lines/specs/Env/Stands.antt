-- When an environment stands for its history.
--
-- Where no field is open, it stands for the plain history that tells its history without fields.
use Rattle.std.specs.Prelude.{◌≡◌, ℕ, ◌<◌, ◌≤◌, ◌^◌, min, true, false, not, ◌∷◌, Option, Some, None}
use Rattle.page_model.specs.declared.event.Event.{Event}
use Rattle.page_model.specs.Events.{History, settings_after, stops_after, is_interrupted}
use Rattle.page_model.specs.Places.{has_line_glyph, input_place}
use Rattle.page_model.specs.TabStops.{way_to_next}
use Rattle.page_model.specs.Fitting.{word_text, line_text, line_indent}
use Rattle.page_model.specs.Words.{is_empty, has_open_word, last_word_glyphs, ends_sentence, blanks, open_word, words, temporary_indent}
use Rattle.page_model.specs.Lines.{Finished, pending_line, pending_length, pending_length as length_plainly}
use Rattle.page_model.specs.Fields.{Field, Told, field_text, field_told, so_far, tab_told, told_plainly}
use Rattle.page_model.specs.Behind.{finished}
use Rattle.roff_lines.specs.Env.Kept.{Kept, KeptField, with_field_left}
use Rattle.page_model.specs.LastLine.{last_text, last_width}

-- an environment of this limit, in which no field is open, keeps k behind the plain history h
pub record StandsPlain (line_cap : ℕ) (h : History) (k : Kept) : Type 0 where
  -- the limit, which the pending line has not passed
  pub small : line_cap < 2 ^ 32
  pub within : pending_length h ≤ line_cap
  pub cap : k.cap ≡ line_cap
  pub no_field : k.field ≡ None
  -- what is in force
  pub settings : k.settings ≡ settings_after h
  pub temporary_indent : k.temporary_indent ≡ temporary_indent h
  pub stops : k.stops ≡ stops_after h
  -- the pending line; where there is none, the indent doesn't matter
  pub has_line : k.has_line ≡ not (is_empty (words h))
  pub line : k.line ≡ line_text (pending_line h)
  pub indent : k.has_line ≡ true → k.indent ≡ line_indent (pending_line h)
  -- the open word
  pub word : k.word ≡ word_text (open_word h)
  pub is_open : k.is_open ≡ has_open_word h
  -- the blanks before it, counted up to more than any line has room for
  pub blanks : k.blanks ≡ min (blanks h) (2 ^ 33)
  -- what the line of the input has so far
  pub has_glyph : k.has_glyph ≡ has_line_glyph h
  pub ends_sentence : k.ends_sentence ≡ ends_sentence (last_word_glyphs h)
  pub place : k.place ≡ input_place h
  pub is_interrupted : k.is_interrupted ≡ is_interrupted h
  -- the last line that was finished: its text and its width
  pub finished : k.finished ≡ last_text h
  pub last_width : k.last_width ≡ last_width h

-- an environment of this limit, in which a field is open behind the plain history h, keeps k: as if the field's text stood at its
-- tab, where no word is open in a field, and the word's text is that up to the tab
pub record StandsInField (line_cap : ℕ) (h : History) (f : Field) (k : Kept) : Type 0 where
  pub field : KeptField
  pub field_is : k.field ≡ Some field
  pub way : field.way ≡ f.way
  pub is_centred : field.is_centred ≡ f.is_centred
  pub text : field.text ≡ field_text f
  pub gap : k.blanks ≡ min f.gap (2 ^ 33)
  pub none_open : k.is_open ≡ false
  pub left : StandsPlain line_cap (field_told 0 f h) (with_field_left k)

-- whatever the field that is open, if one is
abbrev pub StandsTold : ℕ → History → Option Field → Kept → Type 0
StandsTold line_cap h None k = StandsPlain line_cap h k
StandsTold line_cap h (Some f) k = StandsInField line_cap h f k

-- what is told without fields is kept
abbrev pub StandsFor : ℕ → Told → Kept → Type 0
StandsFor line_cap t k = StandsTold line_cap t.events t.field k

-- an environment of this limit keeps k behind the history h
abbrev pub Stands : ℕ → History → Kept → Type 0
Stands line_cap h k = StandsFor line_cap (told_plainly h) k

-- whatever plain history the old environment stands for, the new one stands for it with one event more
abbrev pub StandsPlainBehind : Kept → Event → Kept → Type 0
StandsPlainBehind old e new = (line_cap : ℕ) (h : History) → StandsPlain line_cap h old → StandsPlain line_cap (e ∷ h) new

-- what is told behind a tab, where no field was open in front of it
abbrev pub behind_tab : History → Told
behind_tab h = tab_told (way_to_next (stops_after h) (input_place h)) h

-- the length of the pending line there
abbrev pub length_at_tab : History → ℕ
length_at_tab h = length_plainly (so_far (behind_tab h))

-- whatever plain history the old environment stands for, the new one stands for it with a tab more, which may open a field
abbrev pub StandsBehindTab : Kept → Kept → Type 0
StandsBehindTab old new = (line_cap : ℕ) (h : History) → StandsPlain line_cap h old → StandsFor line_cap (behind_tab h) new

-- whatever history the old environment stands for, the new one stands for it with one event more
abbrev pub StandsBehind : Kept → Event → Kept → Type 0
StandsBehind old e new = (line_cap : ℕ) (h : History) → Stands line_cap h old → Stands line_cap (e ∷ h) new

-- whatever history the old environment stands for, the event finishes this line behind it
abbrev pub Finishes : Kept → Event → Option Finished → Type 0
Finishes old e line = (line_cap : ℕ) (h : History) → Stands line_cap h old → line ≡ finished h e
