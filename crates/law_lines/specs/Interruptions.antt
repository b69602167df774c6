-- Interrupted lines of the input (manual, section 4.2).
use Rattle.std.specs.Prelude.{◌≡◌, [], ◌∷◌}
use Rattle.page_model.specs.declared.event.Event.TheVariants.{Interrupt, Resume}
use Rattle.page_model.specs.Events.{History, stops_after}
use Rattle.page_model.specs.Words.{last_word_glyphs, paragraph, open_word}
use Rattle.page_model.specs.Fields.{plain, told_plainly}
use Rattle.page_model.specs.Behind.{finished_lines, input_place}

-- a history without its interruptions
abbrev pub uninterrupted : History → History
uninterrupted [] = []
uninterrupted (Interrupt ∷ h) = uninterrupted h
uninterrupted (Resume ∷ h) = uninterrupted h
uninterrupted (e ∷ h) = e ∷ uninterrupted h

-- Two histories leave the same: the same field, if one is open; the same open word, with its gap and what is in force; the same
-- glyphs of the last word on the line of the input, by which a sentence ends or doesn't, and the same place on it; the same words
-- before the open one, and the same pending indent; the same tab stops. And they finish the same lines.
pub record LeaveTheSame (h other : History) : Type 0 where
  pub field : (told_plainly h).field ≡ (told_plainly other).field
  pub word : open_word (plain h) ≡ open_word (plain other)
  pub on_line : last_word_glyphs (plain h) ≡ last_word_glyphs (plain other)
  pub place : input_place h ≡ input_place other
  pub paragraph : paragraph (plain h) ≡ paragraph (plain other)
  pub stops : stops_after h ≡ stops_after other
  pub lines : finished_lines h ≡ finished_lines other
