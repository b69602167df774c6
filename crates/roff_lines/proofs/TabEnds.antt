-- A tab behind an open field: the field ends, and with it the word before a gap at its end.
use Rattle.std.proofs.Common.{◌≡◌, ℕ, ◌+◌, ◌≤◌, ◌^◌, min, Bool, true, false, not, ◌&&◌, List, ◌∷◌, ◌++◌, length, Option, Some, None, map, replicate, refl, sym, ap, ap₂, subst, ◌∙◌, arith, if◌then◌else◌, ◌==◌, reverse, eqb-true}
use Rattle.std.specs.List.{cons_option}
use Rattle.page_model.specs.declared.event.Event.TheVariants.{Gap, Print, Tab, WordEnd}
use Rattle.page_model.specs.declared.glyph.Glyph.TheVariants.{Blanks}
use Rattle.page_model.specs.Glyphs.{glyph_blank, text_width}
use Rattle.page_model.specs.declared.settings.Settings.{Settings}
use Rattle.page_model.specs.Events.{History, settings_after}
use Rattle.page_model.specs.Places.{has_line_glyph}
use Rattle.page_model.specs.Fitting.{Word, begins_line, fits, last_line, line_indent, line_text, may_be_wide, word_text}
use Rattle.page_model.specs.Words.{Paragraph, blanks, has_open_word, indent_by, is_empty, open_glyphs, open_word, paragraph, words}
use Rattle.page_model.specs.Lines.{Finished, finished_in, laid_out, line_laid_out, pending_line}
use Rattle.page_model.specs.LastLine.{newest_text, newest_width}
use Rattle.page_model.specs.Paragraphs.{finished_lines}
use Rattle.page_model.specs.Fields.{Field, field_text, field_told, gap_ended, motion, told_plainly, without_gap}
use Rattle.page_model.specs.Behind.{finished as finished_behind, finished_by_tab}
use Rattle.roff_lines.specs.Env.Kept.{Kept, KeptField, at_tab, finished_at_tab, finished_by_word, kept_motion, length_ended, with_field_ended, with_word_ended}
use Rattle.roff_lines.specs.Env.Stands.{Stands, StandsInField, StandsPlain, StandsTold}
use Rattle.roff_lines.proofs.Fields.{blanks-field, has_line_glyph-field, has_open_word-field, settings_after-field, word_text-field, words-field}
use Rattle.roff_lines.proofs.InField.{Stands-field_ended, ended_of, gap-none, gapless, left, left-stands, left_of, motion-is, with_field_ended-is, word_before}
use Rattle.roff_lines.proofs.Stands.{blanks-counted}
use Rattle.roff_lines.proofs.WordEnd.{Stands-word_end}

-- a word's gap is the one it began with, however many blanks stand behind its glyphs
module _ (n : ℕ) (h : History) (open_is : has_open_word h ≡ true) where
  gap_kept : blanks (Gap n ∷ h) ≡ blanks (Gap 0 ∷ h)
  gap_kept = rw open_is refl

  paragraph-gap : paragraph (WordEnd ∷ Gap n ∷ h) ≡ paragraph (WordEnd ∷ Gap 0 ∷ h)
  paragraph-gap =
      let p : Paragraph = paragraph h in
      let ended : ℕ → Word =
      λ gap. record { glyphs = reverse (open_glyphs h); gap = gap; under = settings_after h; indent = indent_by p.temporary_indent (settings_after h) } in
      let behind : ℕ → Paragraph =
      λ gap. record {
        words = if has_open_word h then ended gap ∷ p.words else p.words;
        temporary_indent = if has_open_word h && begins_line (last_line p.words) (ended gap) then None else p.temporary_indent;
      } in
      ap behind gap_kept

  pub finished-gap : finished_in (Gap n ∷ h) WordEnd ≡ finished_in (Gap 0 ∷ h) WordEnd
  finished-gap =
      let p : Paragraph = paragraph h in
      let ended : ℕ → Word =
      λ gap. record { glyphs = reverse (open_glyphs h); gap = gap; under = settings_after h; indent = indent_by p.temporary_indent (settings_after h) } in
      let line : List Word = last_line p.words in
      ap (λ gap. if has_open_word h && not (is_empty p.words) && not (fits line (ended gap)) then Some (line_laid_out (settings_after h) true line) else None)
      gap_kept

  -- the gap behind the word that ended is kept where it stood before the word's end
  pub Stands-gap_behind : (line_cap : ℕ) (k : Kept) → has_line_glyph h ≡ true → StandsPlain line_cap (WordEnd ∷ Gap n ∷ h) k
      → StandsPlain line_cap (Gap n ∷ WordEnd ∷ Gap 0 ∷ h) (record k { blanks = min n (2 ^ 33) })
  Stands-gap_behind line_cap k glyph s =
      let lines = ap (λ (o : Option Finished). cons_option o (finished_lines h)) finished-gap in
      record {
        small = s.small;
        within = subst (λ (p : Paragraph). length (line_text (last_line p.words)) + 0 + 0 ≤ line_cap) paragraph-gap s.within;
        cap = s.cap;
        no_field = s.no_field;
        settings = s.settings;
        temporary_indent = s.temporary_indent ∙ ap (λ (p : Paragraph). p.temporary_indent) paragraph-gap;
        stops = s.stops;
        has_line = s.has_line ∙ ap (λ (p : Paragraph). not (is_empty p.words)) paragraph-gap;
        line = s.line ∙ ap (λ (p : Paragraph). line_text (last_line p.words)) paragraph-gap;
        indent = λ some. s.indent some ∙ ap (λ (p : Paragraph). line_indent (last_line p.words)) paragraph-gap;
        word = s.word;
        is_open = s.is_open;
        blanks = rw (open_is, glyph) (omega arith);
        has_glyph = s.has_glyph;
        ends_sentence = s.ends_sentence;
        place = s.place ∙ rw glyph (omega arith);
        is_interrupted = s.is_interrupted;
        finished = s.finished ∙ ap newest_text lines;
        last_width = s.last_width ∙ ap newest_width lines;
      }

-- the line that a word of this text finishes behind a line of this one
abbrev finished_of : Bool → Settings → ℕ → List ℕ → ℕ → List ℕ → Option Finished
finished_of has s indent line gap word =
    if has && not (may_be_wide s indent (text_width line + gap + text_width word)) then Some (laid_out s true indent line) else None

module _ (line_cap : ℕ) (h : History) (f : Field) (k : Kept) (s : StandsInField line_cap h f k) where
  -- what is kept in front of the tab
  at_tab-is : at_tab k ≡ (if k.blanks == 0 then with_field_ended k else record (with_word_ended (with_field_ended k)) { blanks = k.blanks })
  at_tab-is =
      ap (λ (o : Option KeptField). elim o [
        | None ↦ k
        | Some kept ↦ if k.blanks == 0 then with_field_ended k else record (with_word_ended (with_field_ended k)) { blanks = k.blanks }
      ]) s.field_is

  module _ (room : length_ended k ≤ k.cap) where
    abbrev bare : History
    bare = field_told (motion f) (without_gap f) h

    abbrev at_by : Bool → ℕ → Kept
    at_by none n = if none then with_field_ended k else record (with_word_ended (with_field_ended k)) { blanks = n }

    by_gap : (none : Bool) → (f.gap == 0) ≡ none
        → StandsPlain line_cap (if none then bare else Gap f.gap ∷ WordEnd ∷ bare) (at_by none (min f.gap (2 ^ 33)))
    by_gap true is =
        let same : without_gap f ≡ f = gapless line_cap h f k s (eqb-true f.gap 0 is) in
        subst (λ (g : Field). StandsPlain line_cap (field_told (motion f) g h) (with_field_ended k)) (sym same)
        (Stands-field_ended line_cap h f k s room)
    by_gap false is =
        let behind : History = map Print f.glyphs ++ Print (Blanks (motion f)) ∷ h in
        Stands-gap_behind f.gap behind (has_open_word-field (motion f) f h) line_cap (with_word_ended (with_field_ended k))
        (has_line_glyph-field (motion f) f h)
        (Stands-word_end line_cap (field_told (motion f) f h) (with_field_ended k) (Stands-field_ended line_cap h f k s room))

    pub Stands-at_tab : StandsPlain line_cap (gap_ended f bare) (at_tab k)
    Stands-at_tab =
        subst (StandsPlain line_cap (gap_ended f bare)) (sym (at_tab-is ∙ ap₂ at_by (gap-none line_cap h f k s) s.gap)) (by_gap (f.gap == 0) refl)

  ended-word : k.word ++ (replicate (kept_motion s.field) glyph_blank ++ s.field.text)
      ≡ word_text (open_word h) ++ (replicate (motion f) glyph_blank ++ field_text f)
  ended-word =
      ap₂ (λ (t : List ℕ) (n : ℕ). t ++ (replicate n glyph_blank ++ s.field.text)) (word_before line_cap h f k s) (motion-is line_cap h f k s)
      ∙ ap (λ (t : List ℕ). word_text (open_word h) ++ (replicate (motion f) glyph_blank ++ t)) s.text

  -- the line that this finishes: also where the limit refuses the motion
  finished-ended : finished_by_word (ended_of k s.field) ≡ finished_in (field_told (motion f) (without_gap f) h) WordEnd
  finished-ended =
      let m : ℕ = motion f in
      let g : Field = without_gap f in
      let q : History = field_told m g h in
      let now : Kept = ended_of k s.field in
      let l = left line_cap h f k s in
      let word : now.word ≡ word_text (open_word q) = ended-word ∙ sym (word_text-field m g h) in
      let settings : now.settings ≡ settings_after q = l.settings ∙ sym (settings_after-field m g h) in
      let line : now.line ≡ line_text (pending_line q) = l.line ∙ ap (λ (ws : List Word). line_text (last_line ws)) (sym (words-field m g h)) in
      let lines : now.has_line ≡ not (is_empty (words q)) = l.has_line ∙ ap (λ (ws : List Word). not (is_empty ws)) (sym (words-field m g h)) in
      let opened = has_open_word-field m g h in
      let by : (has : Bool) → now.has_line ≡ has
      → finished_of has now.settings now.indent now.line now.blanks now.word
      ≡ finished_of has (settings_after q) (line_indent (pending_line q)) (line_text (pending_line q)) (blanks q) (word_text (open_word q)) =
      λ has is.
      elim has as (λ (b : Bool). now.has_line ≡ b → finished_of b now.settings now.indent now.line now.blanks now.word ≡ finished_of b (settings_after q) (line_indent (pending_line q)) (line_text (pending_line q)) (blanks q) (word_text (open_word q))) [
        | true ↦ λ lined.
            let counted : now.blanks ≡ blanks q =
            blanks-counted line_cap (field_told 0 f h) (left_of k s.field) (left-stands line_cap h f k s) refl lined
            ∙ blanks-field 0 f h ∙ sym (blanks-field m g h) in
            let indent : now.indent ≡ line_indent (pending_line q) =
            l.indent lined ∙ ap (λ (ws : List Word). line_indent (last_line ws)) (sym (words-field m g h)) in
            ap (λ (st : Settings). finished_of true st now.indent now.line now.blanks now.word) settings
            ∙ ap (λ n. finished_of true (settings_after q) n now.line now.blanks now.word) indent
            ∙ ap (λ (t : List ℕ). finished_of true (settings_after q) (line_indent (pending_line q)) t now.blanks now.word) line
            ∙ ap (λ n. finished_of true (settings_after q) (line_indent (pending_line q)) (line_text (pending_line q)) n now.word) counted
            ∙ ap (finished_of true (settings_after q) (line_indent (pending_line q)) (line_text (pending_line q)) (blanks q)) word
        | false ↦ λ unlined. refl
      ] is in
      by now.has_line refl
      ∙ ap (λ (has : Bool). finished_of has (settings_after q) (line_indent (pending_line q)) (line_text (pending_line q)) (blanks q) (word_text (open_word q))) lines
      ∙ ap (λ (o : Bool). if o && not (is_empty (words q)) && not (fits (pending_line q) (open_word q)) then Some (line_laid_out (settings_after q) true (pending_line q)) else None)
      (sym opened)

  pub finished_at_tab-is : finished_at_tab k ≡ (if f.gap == 0 then None else finished_in (field_told (motion f) (without_gap f) h) WordEnd)
  finished_at_tab-is =
      ap (λ (o : Option KeptField). elim o [ None ↦ None | Some kept ↦ if k.blanks == 0 then None else finished_by_word (with_field_ended k) ]) s.field_is
      ∙ ap₂ (λ (none : Bool) (ended : Kept). if none then None else finished_by_word ended) (gap-none line_cap h f k s) (with_field_ended-is line_cap h f k s)
      ∙ ap (λ (o : Option Finished). if f.gap == 0 then None else o) finished-ended

-- so it is the line that the tab finishes
finished_at_tab-told : (line_cap : ℕ) (h : History) (o : Option Field) (k : Kept) → StandsTold line_cap h o k
    → finished_at_tab k ≡ finished_by_tab (record { events = h; field = o })
finished_at_tab-told line_cap h None k s =
    ap (λ (o : Option KeptField). elim o [ None ↦ None | Some kept ↦ if k.blanks == 0 then None else finished_by_word (with_field_ended k) ]) s.no_field
finished_at_tab-told line_cap h (Some f) k s = finished_at_tab-is line_cap h f k s

pub finished_at_tab-stands : (line_cap : ℕ) (h : History) (k : Kept) → Stands line_cap h k → finished_at_tab k ≡ finished_behind h Tab
finished_at_tab-stands line_cap h k s = finished_at_tab-told line_cap (told_plainly h).events (told_plainly h).field k s
