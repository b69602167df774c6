-- A gap, where an environment stands for its history.
use Rattle.std.proofs.Common.{◌≡◌, ℕ, ◌≤◌, ◌^◌, min, true, false, not, ◌∷◌, inl, inr, ne_eqb, refl, sym, ap, subst, ◌∙◌, arith, ◌==◌, eqb-true}
use Rattle.std.proofs.lemmas.Bool.{cases_Bool, cond_both, eqb-false}
use Rattle.page_model.specs.declared.event.Event.TheVariants.{Gap}
use Rattle.page_model.specs.Events.{History}
use Rattle.page_model.specs.Places.{has_line_glyph, moved}
use Rattle.page_model.specs.Words.{blanks, has_open_word}
use Rattle.roff_lines.specs.Env.Kept.{Kept, kept_with_gap}
use Rattle.roff_lines.specs.Env.Stands.{StandsPlain, StandsPlainBehind}
use Rattle.roff_lines.proofs.Gaps.{StandsBehind-first_gap, blanks-open, closed-none}
use Rattle.roff_lines.proofs.LastLine.{last_text-none, last_width-none}
use Rattle.roff_lines.proofs.WholeWords.{Stands-gap, behind_gap}

module _ (line_cap : ℕ) (n : ℕ) (h : History) (k : Kept) (s : StandsPlain line_cap h k) where
  -- it leaves the blanks before an open word
  Stands-gap_open : k.is_open ≡ true → k.has_glyph ≡ true → StandsPlain line_cap (Gap n ∷ h) (record k { place = moved n k.place })
  Stands-gap_open o some =
      let open_before : has_open_word h ≡ true = sym s.is_open ∙ o in
      let glyph : has_line_glyph h ≡ true = sym s.has_glyph ∙ some in
      record {
        small = s.small;
        within = rw open_before (rw open_before at s.within);
        cap = s.cap;
        no_field = s.no_field;
        settings = s.settings;
        temporary_indent = s.temporary_indent;
        stops = s.stops;
        has_line = s.has_line;
        line = s.line;
        indent = s.indent;
        word = s.word;
        is_open = s.is_open;
        blanks = rw open_before s.blanks;
        has_glyph = s.has_glyph;
        ends_sentence = s.ends_sentence;
        place = rw glyph (ap (moved n) s.place);
        is_interrupted = s.is_interrupted;
        finished = s.finished ∙ sym (last_text-none h (Gap n) refl);
        last_width = s.last_width ∙ sym (last_width-none h (Gap n) refl);
      }

  -- and those that are there, where no glyph stands on the line
  Stands-gap_kept : k.has_glyph ≡ false → (k.blanks == 0) ≡ false → StandsPlain line_cap (Gap n ∷ h) k
  Stands-gap_kept bare some =
      let no_glyph : has_line_glyph h ≡ false = sym s.has_glyph ∙ bare in
      let counted : (blanks h == 0) ≡ false = ne_eqb (blanks h) 0 (λ e. absurd (omega (arith, eqb-false k.blanks 0 some, s.blanks, e))) in
      let same : blanks (Gap n ∷ h) ≡ blanks h =
      elim (cases_Bool (has_open_word h)) [ inl o ↦ rw o refl | inr o ↦ rw (o, no_glyph, counted) refl ] in
      record {
        small = s.small;
        within = rw same s.within;
        cap = s.cap;
        no_field = s.no_field;
        settings = s.settings;
        temporary_indent = s.temporary_indent;
        stops = s.stops;
        has_line = s.has_line;
        line = s.line;
        indent = s.indent;
        word = s.word;
        is_open = s.is_open;
        blanks = s.blanks ∙ ap (λ m. min m (2 ^ 33)) (sym same);
        has_glyph = s.has_glyph;
        ends_sentence = s.ends_sentence;
        place = rw no_glyph s.place;
        is_interrupted = s.is_interrupted;
        finished = s.finished ∙ sym (last_text-none h (Gap n) refl);
        last_width = s.last_width ∙ sym (last_width-none h (Gap n) refl);
      }

  -- where none are there, no word is open
  closed_bare : k.blanks ≡ 0 → k.is_open ≡ false
  closed_bare none =
      closed-none k.is_open k.blanks (λ o. let some = blanks-open h (sym s.is_open ∙ o) in omega (arith, s.blanks, some)) none

-- so what is kept behind it stands for the plain history with it
pub Stands-with_gap : (n : ℕ) → n ≤ 2 ^ 33 → (k : Kept) → StandsPlainBehind k (Gap n) (kept_with_gap n k)
Stands-with_gap n few k line_cap h s =
    let Goal : Kept → Type 0 = StandsPlain line_cap (Gap n ∷ h) in
    elim (cases_Bool k.has_glyph) [
      | inl glyph ↦ elim (cases_Bool k.is_open) [
        | inl o ↦
            let is : record k { place = moved n k.place } ≡ kept_with_gap n k = rw (glyph, o) refl in
            subst Goal is (Stands-gap_open line_cap n h k s o glyph)
        | inr o ↦
            let is : behind_gap n k ≡ kept_with_gap n k = rw (glyph, o) refl in
            subst Goal is (Stands-gap n k o glyph line_cap h s)
      ]
      | inr bare ↦ elim (cases_Bool (k.blanks == 0)) [
        | inl none ↦
            let zero = eqb-true k.blanks 0 none in
            let is : record k { blanks = n } ≡ kept_with_gap n k = rw (bare, none) refl in
            subst Goal is (StandsBehind-first_gap n k few bare (closed_bare line_cap n h k s zero) zero line_cap h s)
        | inr some ↦
            let is : k ≡ kept_with_gap n k = rw (bare, some) refl in
            subst Goal is (Stands-gap_kept line_cap n h k s bare some)
      ]
    ]

-- it opens no field, and ends none
pub field-gap : (n : ℕ) (k : Kept) → (kept_with_gap n k).field ≡ k.field
field-gap n k = cond_both (not k.has_glyph) _ _ (λ (new : Kept). new.field ≡ k.field) (λ _. refl) (λ _. refl)
