-- A word end, where an environment stands for its history.
use Rattle.std.proofs.Common.{◌≡◌, ℕ, true, false, not, List, [], ◌∷◌, ◌++◌, None, refl, sym, ap, ◌∙◌, arith, inl, inr}
use Rattle.std.proofs.lemmas.Bool.{cond_both, cases_Bool, not-true, not-false}
use Rattle.page_model.specs.declared.event.Event.TheVariants.{WordEnd}
use Rattle.page_model.specs.Events.{History}
use Rattle.page_model.specs.Words.{has_open_word, open_word, temporary_indent, indent_by}
use Rattle.page_model.specs.Fitting.{gap_text, begins_line}
use Rattle.page_model.specs.Lines.{laid_out, finished_in, pending_line}
use Rattle.page_model.specs.LastLine.{last_text, last_width}
use Rattle.roff_lines.specs.Env.Kept.{Kept, without_word, word_as_line, word_fits, pending_width, with_word_ended, finished_by_word}
use Rattle.roff_lines.specs.Env.Stands.{StandsPlain}
use Rattle.roff_lines.proofs.PendingLine.{placed-full, begins_line-full, line_text-full, line_indent-full, word_text-closed, pending_length-word_end}
use Rattle.roff_lines.proofs.LastLine.{last_text-none, last_text-some, last_width-none, last_width-some}
use Rattle.roff_lines.proofs.Stands.{is_empty-pending_line, words-no_line, blanks-counted, word_fits-stands, laid_out-stands}

module _ (line_cap : ℕ) (h : History) (k : Kept) (s : StandsPlain line_cap h k) where
  -- the line that a word end finishes is the definition's
  pub finished_by_word-stands : finished_by_word k ≡ finished_in h WordEnd
  finished_by_word-stands =
      elim (cases_Bool k.is_open) [
        | inl o ↦ elim (cases_Bool k.has_line) [
          | inl l ↦ rw (← s.is_open, ← s.has_line, o, l, word_fits-stands line_cap h k s o l, laid_out-stands line_cap h k s true l) refl
          | inr l ↦ rw (← s.is_open, ← s.has_line, o, l) refl
        ]
        | inr o ↦ rw (← s.is_open, o) refl
      ]

  -- where it finishes none, the last one stays
  finished-kept : finished_by_word k ≡ None → k.finished ≡ last_text (WordEnd ∷ h)
  finished-kept none = s.finished ∙ sym (last_text-none h WordEnd (sym finished_by_word-stands ∙ none))

  last_width-kept : finished_by_word k ≡ None → k.last_width ≡ last_width (WordEnd ∷ h)
  last_width-kept none = s.last_width ∙ sym (last_width-none h WordEnd (sym finished_by_word-stands ∙ none))

  -- no word is open
  Stands-closed : k.is_open ≡ false → StandsPlain line_cap (WordEnd ∷ h) k
  Stands-closed o =
      let closed : has_open_word h ≡ false = sym s.is_open ∙ o in
      record {
        small = s.small;
        within = omega (arith, pending_length-word_end h, s.within);
        cap = s.cap;
        no_field = s.no_field;
        settings = s.settings;
        temporary_indent = rw closed s.temporary_indent;
        stops = s.stops;
        has_line = rw closed s.has_line;
        line = rw closed s.line;
        indent = rw closed s.indent;
        word = s.word ∙ word_text-closed h closed;
        is_open = o;
        blanks = rw closed s.blanks;
        has_glyph = s.has_glyph;
        ends_sentence = s.ends_sentence;
        place = s.place;
        is_interrupted = s.is_interrupted;
        finished = finished-kept (rw o refl);
        last_width = last_width-kept (rw o refl);
      }

  module _ (o : k.is_open ≡ true) where
    open_before : has_open_word h ≡ true
    open_before = sym s.is_open ∙ o

    -- where no line is pending, the word begins one
    begins_line-first : k.has_line ≡ false → begins_line (pending_line h) (open_word h) ≡ true
    begins_line-first l = rw (words-no_line line_cap h k s l) refl

    -- else it does if it doesn't fit
    begins_line-kept : k.has_line ≡ true → begins_line (pending_line h) (open_word h) ≡ not (word_fits k)
    begins_line-kept l =
        begins_line-full (pending_line h) (open_word h) (is_empty-pending_line line_cap h k s l)
        ∙ ap not (sym (word_fits-stands line_cap h k s o l))

    begins_line-behind : k.has_line ≡ true → word_fits k ≡ false → begins_line (pending_line h) (open_word h) ≡ true
    begins_line-behind l f = begins_line-kept l ∙ ap not f

    begins_line-within : k.has_line ≡ true → word_fits k ≡ true → begins_line (pending_line h) (open_word h) ≡ false
    begins_line-within l f = begins_line-kept l ∙ ap not f

    -- no line is pending
    pending_line-first : k.has_line ≡ false → pending_line (WordEnd ∷ h) ≡ open_word h ∷ []
    pending_line-first l = rw (open_before, words-no_line line_cap h k s l) refl

    -- the word doesn't fit behind the pending line
    pending_line-behind : k.has_line ≡ true → word_fits k ≡ false → pending_line (WordEnd ∷ h) ≡ open_word h ∷ []
    pending_line-behind l f =
        let behind = sym (word_fits-stands line_cap h k s o l) ∙ f in
        rw open_before (rw (placed-full (pending_line h) (open_word h) (is_empty-pending_line line_cap h k s l), behind) refl)

    -- the word fits there
    pending_line-within : k.has_line ≡ true → word_fits k ≡ true → pending_line (WordEnd ∷ h) ≡ open_word h ∷ pending_line h
    pending_line-within l f =
        let within = sym (word_fits-stands line_cap h k s o l) ∙ f in
        rw open_before (rw (placed-full (pending_line h) (open_word h) (is_empty-pending_line line_cap h k s l), within) refl)

    -- and so finishes that
    last_width-full : k.has_line ≡ true → word_fits k ≡ false → pending_width true k ≡ last_width (WordEnd ∷ h)
    last_width-full l f =
        let full = laid_out k.settings true k.indent k.line in
        sym (last_width-some h WordEnd full (sym finished_by_word-stands ∙ rw (o, l, f) refl))

    finished-full : k.has_line ≡ true → word_fits k ≡ false → k.line ≡ last_text (WordEnd ∷ h)
    finished-full l f =
        let full = laid_out k.settings true k.indent k.line in
        sym (last_text-some h WordEnd full (sym finished_by_word-stands ∙ rw (o, l, f) refl))

    -- the word begins a line
    Stands-beginning : (text : List ℕ) (width : ℕ)
        → begins_line (pending_line h) (open_word h) ≡ true
        → pending_line (WordEnd ∷ h) ≡ open_word h ∷ [] → text ≡ last_text (WordEnd ∷ h) → width ≡ last_width (WordEnd ∷ h)
        → StandsPlain line_cap (WordEnd ∷ h) (without_word (word_as_line (record k { finished = text; last_width = width })))
    Stands-beginning text width begins line last_one last =
        let begun = ap (λ t. indent_by t k.settings) s.temporary_indent ∙ ap (indent_by (temporary_indent h)) s.settings in record {
          small = s.small;
          within = omega (arith, pending_length-word_end h, s.within);
          cap = s.cap;
          no_field = s.no_field;
          settings = s.settings;
          temporary_indent = rw (open_before, begins) refl;
          stops = s.stops;
          has_line = rw open_before refl;
          line = rw line s.word;
          indent = λ _. rw line begun;
          word = refl;
          is_open = refl;
          blanks = rw open_before refl;
          has_glyph = s.has_glyph;
          ends_sentence = s.ends_sentence;
          place = s.place;
          is_interrupted = s.is_interrupted;
          finished = last_one;
          last_width = last;
        }

    -- the word stands behind the pending line
    Stands-within : k.has_line ≡ true → word_fits k ≡ true →
        StandsPlain line_cap (WordEnd ∷ h) (without_word (record k { line = k.line ++ (gap_text k.blanks ++ k.word) }))
    Stands-within l f =
        let line = pending_line-within l f in
        let full = is_empty-pending_line line_cap h k s l in
        let counted = blanks-counted line_cap h k s o l in
        record {
          small = s.small;
          within = omega (arith, pending_length-word_end h, s.within);
          cap = s.cap;
          no_field = s.no_field;
          settings = s.settings;
          temporary_indent = rw (open_before, begins_line-within l f) s.temporary_indent;
          stops = s.stops;
          has_line = rw open_before l;
          line = rw (line, line_text-full (pending_line h) (open_word h) full, s.line, counted, s.word) refl;
          indent = λ _. rw (line, line_indent-full (pending_line h) (open_word h) full) (s.indent l);
          word = refl;
          is_open = refl;
          blanks = rw open_before refl;
          has_glyph = s.has_glyph;
          ends_sentence = s.ends_sentence;
          place = s.place;
          is_interrupted = s.is_interrupted;
          finished = finished-kept (rw (o, l, f) refl);
          last_width = last_width-kept (rw (o, l, f) refl);
        }

  -- what is kept behind a word end stands for the history with it
  pub Stands-word_end : StandsPlain line_cap (WordEnd ∷ h) (with_word_ended k)
  Stands-word_end =
      let Goal : Kept → Type 0 = StandsPlain line_cap (WordEnd ∷ h) in
      cond_both (not k.is_open) _ _ Goal
      (λ e. Stands-closed (not-true k.is_open e))
      (λ e. let o = not-false k.is_open e in
      cond_both (not k.has_line) _ _ Goal
      (λ e'. let l = not-true k.has_line e' in
      Stands-beginning o k.finished k.last_width (begins_line-first o l) (pending_line-first o l)
      (finished-kept (rw (o, l) refl)) (last_width-kept (rw (o, l) refl)))
      (λ e'. let l = not-false k.has_line e' in
      cond_both (word_fits k) _ _ Goal
      (Stands-within o l)
      (λ f. Stands-beginning o k.line (pending_width true k) (begins_line-behind o l f) (pending_line-behind o l f)
      (finished-full o l f) (last_width-full o l f))))
