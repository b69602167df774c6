-- A line's end, where an environment stands for its history.
use Rattle.std.proofs.Common.{◌≡◌, ℕ, ◌^◌, true, false, not, ◌&&◌, ◌||◌, List, [], ◌∷◌, refl, sym, ap, ◌∙◌, arith, min, Some, None, inl, inr, if◌then◌else◌, true≢false}
use Rattle.std.proofs.lemmas.Bool.{cond_both, cases_Bool}
use Rattle.page_model.specs.declared.event.Event.TheVariants.{LineEnd}
use Rattle.page_model.specs.Events.{History, settings_after}
use Rattle.page_model.specs.Settings.{fills, counted}
use Rattle.page_model.specs.Places.{has_line_glyph}
use Rattle.page_model.specs.Words.{is_empty, blanks, words}
use Rattle.page_model.specs.Lines.{Finished, empty_line, finished_in, laid_out, line_laid_out, pending_line}
use Rattle.page_model.specs.LastLine.{line_width, last_text, last_width}
use Rattle.roff_lines.specs.Env.Kept.{Kept, pending_width, with_input_line_ended, finished_by_line_end}
use Rattle.roff_lines.specs.Env.Stands.{StandsPlain}
use Rattle.roff_lines.proofs.PendingLine.{pending_length-line_end}
use Rattle.roff_lines.proofs.LastLine.{last_text-none, last_text-some, last_width-none, last_width-some}
use Rattle.roff_lines.proofs.Stands.{laid_out-stands}

module _ (line_cap : ℕ) (h : History) (k : Kept) (s : StandsPlain line_cap h k) where
  -- where words are measured, the end of a line with a glyph has a gap of its own
  blanks-filled : fills k.settings ≡ true →
      (if not k.is_open && k.has_glyph then (if k.ends_sentence then 2 else 1) else k.blanks)
      ≡ min (blanks (LineEnd ∷ h)) (2 ^ 33)
  blanks-filled f =
      elim (cases_Bool k.is_open) [
        | inl o ↦ rw (← s.is_open, o) s.blanks
        | inr o ↦ elim (cases_Bool (has_line_glyph h)) [
          | inr e ↦ rw (← s.settings, ← s.is_open, f, o, s.has_glyph, e) s.blanks
          | inl e ↦ rw (← s.settings, ← s.is_open, f, o, s.has_glyph, e, ← s.ends_sentence)
              (cond_both k.ends_sentence 2 1 (λ n. n ≡ min n (2 ^ 33)) (λ _. refl) (λ _. refl))
        ]
      ]

  -- where words aren't measured, it drops the blanks before the next word, but not those before an open one
  blanks-unfilled : fills k.settings ≡ false → (if k.is_open then k.blanks else 0) ≡ min (blanks (LineEnd ∷ h)) (2 ^ 33)
  blanks-unfilled f =
      elim (cases_Bool k.is_open) [
        | inl o ↦ rw (← s.is_open, o) s.blanks
        | inr o ↦ rw (← s.settings, ← s.is_open, f, o) refl
      ]

  -- where words aren't measured, the pending line is finished, or an empty one where nothing is filled
  laid_out-unfilled :
      (if k.has_line then Some (laid_out k.settings false k.indent k.line)
      else if k.settings.filling then None else Some (empty_line k.settings))
      ≡ (if is_empty (words h) then (if (settings_after h).filling then None else Some (empty_line (settings_after h)))
      else Some (line_laid_out (settings_after h) false (pending_line h)))
  laid_out-unfilled =
      elim (cases_Bool (is_empty (words h))) [
        | inl e ↦ rw (s.has_line, e, s.settings) refl
        | inr e ↦ let l : k.has_line ≡ true = s.has_line ∙ ap not e in
            rw (l, e) (ap Some (laid_out-stands line_cap h k s false l))
      ]

  -- the line that a line's end finishes is the definition's
  pub finished_by_line_end-stands : finished_by_line_end k ≡ finished_in h LineEnd
  finished_by_line_end-stands =
      ap (λ t. if fills t then None
      else if k.has_line then Some (laid_out k.settings false k.indent k.line)
      else if k.settings.filling then None
      else Some (empty_line k.settings)) s.settings
      ∙ ap (λ x. if fills (settings_after h) then None else x) laid_out-unfilled

  -- where it finishes none, the last one stays
  finished-kept : finished_by_line_end k ≡ None → k.finished ≡ last_text (LineEnd ∷ h)
  finished-kept none = s.finished ∙ sym (last_text-none h LineEnd (sym finished_by_line_end-stands ∙ none))

  last_width-kept : finished_by_line_end k ≡ None → k.last_width ≡ last_width (LineEnd ∷ h)
  last_width-kept none = s.last_width ∙ sym (last_width-none h LineEnd (sym finished_by_line_end-stands ∙ none))

  -- where it finishes one, that is the last
  finished-set : (line : Finished) → finished_by_line_end k ≡ Some line → line.text ≡ last_text (LineEnd ∷ h)
  finished-set line some = sym (last_text-some h LineEnd line (sym finished_by_line_end-stands ∙ some))

  last_width-set : (line : Finished) → finished_by_line_end k ≡ Some line → line_width line ≡ last_width (LineEnd ∷ h)
  last_width-set line some = sym (last_width-some h LineEnd line (sym finished_by_line_end-stands ∙ some))

  -- so it is where no empty line is finished
  finished-unfilled : fills k.settings ≡ false → (k.has_line || k.settings.filling) ≡ true
      → (if k.has_line then k.line else k.finished) ≡ last_text (LineEnd ∷ h)
  finished-unfilled f some =
      elim (cases_Bool k.has_line) [
        | inl l ↦ rw l (finished-set (laid_out k.settings false k.indent k.line) (rw (f, l) refl))
        | inr l ↦ rw l (let filling : k.settings.filling ≡ true = rw l at some in finished-kept (rw (f, l, filling) refl))
      ]

  last_width-unfilled : fills k.settings ≡ false → (k.has_line || k.settings.filling) ≡ true
      → (if k.has_line then pending_width false k else k.last_width) ≡ last_width (LineEnd ∷ h)
  last_width-unfilled f some =
      elim (cases_Bool k.has_line) [
        | inl l ↦ rw l (last_width-set (laid_out k.settings false k.indent k.line) (rw (f, l) refl))
        | inr l ↦ rw l (let filling : k.settings.filling ≡ true = rw l at some in last_width-kept (rw (f, l, filling) refl))
      ]

  -- where words aren't measured, nothing is pending behind it
  Stands-unfilled : fills k.settings ≡ false → (text : List ℕ) (width : ℕ) → text ≡ last_text (LineEnd ∷ h)
      → width ≡ last_width (LineEnd ∷ h)
      → StandsPlain line_cap (LineEnd ∷ h) (record k {
        settings = counted k.settings;
        line = [];
        has_line = false;
        blanks = if k.is_open then k.blanks else 0;
        has_glyph = false;
        ends_sentence = false;
        place = 0;
        finished = text;
        last_width = width;
      })
  Stands-unfilled f text width last_one last = record {
    small = s.small;
    within = omega (arith, pending_length-line_end h, s.within);
    cap = s.cap;
    no_field = s.no_field;
    settings = ap counted s.settings;
    temporary_indent = s.temporary_indent;
    stops = s.stops;
    has_line = rw (← s.settings, f) refl;
    line = rw (← s.settings, f) refl;
    indent = λ e. absurd (true≢false (sym e));
    word = s.word;
    is_open = s.is_open;
    blanks = blanks-unfilled f;
    has_glyph = refl;
    ends_sentence = refl;
    place = refl;
    is_interrupted = s.is_interrupted;
    finished = last_one;
    last_width = last;
  }

  -- where they are measured, the pending line stays
  Stands-filled : fills k.settings ≡ true → StandsPlain line_cap (LineEnd ∷ h) (record k {
    settings = counted k.settings;
    blanks = if not k.is_open && k.has_glyph then (if k.ends_sentence then 2 else 1) else k.blanks;
    has_glyph = false;
    ends_sentence = false;
    place = 0;
  })
  Stands-filled f = record {
    small = s.small;
    within = omega (arith, pending_length-line_end h, s.within);
    cap = s.cap;
    no_field = s.no_field;
    settings = ap counted s.settings;
    temporary_indent = s.temporary_indent;
    stops = s.stops;
    has_line = rw (← s.settings, f) s.has_line;
    line = rw (← s.settings, f) s.line;
    indent = rw (← s.settings, f) s.indent;
    word = s.word;
    is_open = s.is_open;
    blanks = blanks-filled f;
    has_glyph = refl;
    ends_sentence = refl;
    place = refl;
    is_interrupted = s.is_interrupted;
    finished = finished-kept (rw f refl);
    last_width = last_width-kept (rw f refl);
  }

  -- where an empty line is finished, it is that
  empty-unfilled : fills k.settings ≡ false → (k.has_line || k.settings.filling) ≡ false
      → finished_by_line_end k ≡ Some (empty_line k.settings)
  empty-unfilled f none =
      elim (cases_Bool k.has_line) [
        | inl l ↦ absurd (true≢false (rw l at none))
        | inr l ↦ rw (f, l, rw l at none) refl
      ]

  -- what is kept behind a line's end stands for the history with it
  pub Stands-line_end : StandsPlain line_cap (LineEnd ∷ h) (with_input_line_ended k)
  Stands-line_end =
      let Goal : Kept → Type 0 = λ n. StandsPlain line_cap (LineEnd ∷ h) (record n { settings = counted k.settings }) in
      cond_both (fills k.settings) _ _ Goal Stands-filled
      (λ f. cond_both (k.has_line || k.settings.filling) _ _ Goal
      (λ some. Stands-unfilled f (if k.has_line then k.line else k.finished)
      (if k.has_line then pending_width false k else k.last_width) (finished-unfilled f some) (last_width-unfilled f some))
      (λ none. Stands-unfilled f [] 0 (finished-set (empty_line k.settings) (empty-unfilled f none))
      (last_width-set (empty_line k.settings) (empty-unfilled f none))))
