-- An interruption leaves the pending line's length, in a field too.
use Rattle.std.proofs.Common.{◌≡◌, ℕ, ◌+◌, not, ◌&&◌, ◌||◌, List, [], ◌∷◌, ◌++◌, map, reverse, length, Option, Some, None, refl, ◌∙◌, ap, Bool, if◌then◌else◌, ◌==◌}
use Rattle.std.specs.List.{flat_map}
use Rattle.page_model.specs.declared.glyph.Glyph.{Glyph}
use Rattle.page_model.specs.declared.glyph.Glyph.TheVariants.{Blanks}
use Rattle.page_model.specs.declared.event.Event.TheVariants.{Print, Gap, Interrupt}
use Rattle.page_model.specs.Behind.{pending_length}
use Rattle.page_model.specs.Events.{History}
use Rattle.page_model.specs.Fields.{Field, Told, field_told, so_far, told_plainly, told_behind}
use Rattle.page_model.specs.Fitting.{Word, last_line, line_text}
use Rattle.page_model.specs.Glyphs.{glyph_text}
use Rattle.page_model.specs.Lines.{pending_length as length_in}
use Rattle.page_model.specs.Places.{has_line_glyph}
use Rattle.page_model.specs.Words.{begun_gap, blanks, has_open_word, is_empty, last_word_glyphs, open_glyphs, words}

-- two histories have the same words, of which the last one is open in both or ended, and the same blanks before the next
record IsAlike (g h : History) : Type 0 where
  glyphs : open_glyphs g ≡ open_glyphs h
  on_line : has_line_glyph g ≡ has_line_glyph h
  last_word : last_word_glyphs g ≡ last_word_glyphs h
  gap : blanks g ≡ blanks h
  in_lines : words g ≡ words h

module _ (g h : History) (is : IsAlike g h) where
  -- so they have with a glyph more
  alike-print : (x : Glyph) → IsAlike (Print x ∷ g) (Print x ∷ h)
  alike-print x = record {
    glyphs = ap (λ (gs : List Glyph). x ∷ gs) is.glyphs;
    on_line = refl;
    last_word =
        ap (λ (gs : List Glyph). x ∷ (if not (is_empty gs) then last_word_glyphs g else [])) is.glyphs
        ∙ ap (λ (word : List Glyph). x ∷ (if has_open_word h then word else [])) is.last_word;
    gap =
        ap (λ (gs : List Glyph). if not (is_empty gs) then blanks g else begun_gap (blanks g) (last_word_glyphs g)) is.glyphs
        ∙ ap (λ (n : ℕ). if has_open_word h then n else begun_gap n (last_word_glyphs g)) is.gap
        ∙ ap (λ (word : List Glyph). if has_open_word h then blanks h else begun_gap (blanks h) word) is.last_word;
    in_lines = is.in_lines;
  }

  -- and with a gap
  alike-gap : (n : ℕ) → IsAlike (Gap n ∷ g) (Gap n ∷ h)
  alike-gap n =
      let before : List Glyph → Bool → ℕ → ℕ =
      λ gs on_line k. if not (is_empty gs) || (not on_line && not (k == 0)) then k else k + n in record {
        glyphs = is.glyphs;
        on_line = is.on_line;
        last_word = is.last_word;
        gap =
            ap (λ (gs : List Glyph). before gs (has_line_glyph g) (blanks g)) is.glyphs
            ∙ ap (λ (on_line : Bool). before (open_glyphs h) on_line (blanks g)) is.on_line
            ∙ ap (before (open_glyphs h) (has_line_glyph h)) is.gap;
        in_lines = is.in_lines;
      }

  -- their pending lines are as long
  same_length : length_in g ≡ length_in h
  same_length =
      let in_bytes : List Word → List Glyph → ℕ → ℕ =
      λ ws gs n.
      length (line_text (last_line ws)) + (if not (is_empty gs) && not (is_empty ws) then n else 0)
      + length (flat_map glyph_text (reverse gs)) in
      ap (λ (ws : List Word). in_bytes ws (open_glyphs g) (blanks g)) is.in_lines
      ∙ ap (λ (gs : List Glyph). in_bytes (words h) gs (blanks g)) is.glyphs
      ∙ ap (in_bytes (words h) (open_glyphs h)) is.gap

-- with glyphs more
alike-glyphs : (gs : List Glyph) (g h : History) → IsAlike g h → IsAlike (map Print gs ++ g) (map Print gs ++ h)
alike-glyphs [] g h is = is
alike-glyphs (x ∷ gs) g h is = alike-print (map Print gs ++ g) (map Print gs ++ h) (alike-glyphs gs g h is) x

-- with a field
alike-field : (m : ℕ) (f : Field) (g h : History) → IsAlike g h → IsAlike (field_told m f g) (field_told m f h)
alike-field m f g h is =
    alike-gap _ _ (alike-glyphs f.glyphs (Print (Blanks m) ∷ g) (Print (Blanks m) ∷ h) (alike-print g h is (Blanks m))) f.gap

-- one with an interruption is like it without that
alike-interrupted : (h : History) → IsAlike (Interrupt ∷ h) h
alike-interrupted h = record { glyphs = refl; on_line = refl; last_word = refl; gap = refl; in_lines = refl }

pub pending_length-interrupted : (h : History) → pending_length (Interrupt ∷ h) ≡ pending_length h
pending_length-interrupted h = by_field (told_plainly h).events (told_plainly h).field
  where
    by_field : (events : History) (field : Option Field) → let t : Told = record { events = events; field = field } in
        length_in (so_far (told_behind Interrupt t)) ≡ length_in (so_far t)
    by_field events None = same_length (Interrupt ∷ events) events (alike-interrupted events)
    by_field events (Some f) =
        same_length (field_told 0 f (Interrupt ∷ events)) (field_told 0 f events)
        (alike-field 0 f (Interrupt ∷ events) events (alike-interrupted events))
