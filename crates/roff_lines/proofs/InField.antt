-- Where a field is open: what an environment keeps stands for its history, as if the field's text stood at its tab.
use Rattle.std.proofs.Common.{◌≡◌, ◌↔◌, ℕ, ◌+◌, ◌<◌, ◌≤◌, ◌^◌, min, Bool, true, false, not, ◌&&◌, List, ◌∷◌, ◌++◌, length, replicate, Option, Some, None, refl, sym, ap, ap₂, subst, ◌∙◌, arith, append_assoc, ◌-◌, ◌/◌, if◌then◌else◌, ◌==◌}
use Rattle.std.proofs.lemmas.Bool.Decides.{nat_tests}
use Rattle.std.proofs.lemmas.List.{append_cancel_right}
use Rattle.page_model.specs.declared.glyph.Glyph.{Glyph}
use Rattle.page_model.specs.declared.glyph.Glyph.TheVariants.{Blanks}
use Rattle.page_model.specs.Glyphs.{glyph_blank, glyph_text, text_width}
use Rattle.page_model.specs.Events.{History, settings_after, stops_after, is_interrupted}
use Rattle.page_model.specs.Places.{input_place, moved}
use Rattle.page_model.specs.Fitting.{Word, line_indent, line_text, last_line, word_text}
use Rattle.page_model.specs.Words.{begun_gap, blanks, ends_sentence, has_open_word, is_closer, is_empty, is_sentence_mark, last_word_glyphs, open_word, temporary_indent, words}
use Rattle.page_model.specs.Lines.{pending_length, pending_line}
use Rattle.page_model.specs.LastLine.{last_text, last_width, newest_text, newest_width}
use Rattle.page_model.specs.Fields.{Field, field_text, field_told, motion, with_glyph, without_gap}
use Rattle.roff_lines.specs.Env.Kept.{Kept, KeptField, kept_length, kept_motion, length_ended, length_of_words, length_told, length_with, with_field_ended, with_field_left, kept_with_glyph, with_glyph_in, with_glyph_told}
use Rattle.roff_lines.specs.Env.Stands.{StandsInField, StandsPlain}
use Rattle.roff_lines.proofs.Fields.{blanks-field, ends_sentence-field, field_text-glyph, finished_lines-field, has_line_glyph-field, has_open_word-field, input_place-field, is_interrupted-field, length-field_glyph, pending_length-field, pending_length-motion, settings_after-field, stops_after-field, temporary_indent-field, text_width-field_glyph, word_text-field, words-field}
use Rattle.roff_lines.proofs.Stands.{blanks-counted}

-- the blanks in front of the word in which a tab stands, or that it begins
abbrev pub begun : History → ℕ
begun h = if has_open_word h then blanks h else begun_gap (blanks h) (last_word_glyphs h)

-- what an environment keeps that stands for a field told behind h, said of h
pub record KeepsTold (line_cap m : ℕ) (f : Field) (h : History) (k : Kept) : Type 0 where
  pub small : line_cap < 2 ^ 32
  pub within : pending_length (field_told m f h) ≤ line_cap
  pub cap : k.cap ≡ line_cap
  pub no_field : k.field ≡ None
  pub settings : k.settings ≡ settings_after h
  pub temporary_indent : k.temporary_indent ≡ temporary_indent h
  pub stops : k.stops ≡ stops_after h
  pub has_line : k.has_line ≡ not (is_empty (words h))
  pub line : k.line ≡ line_text (pending_line h)
  pub indent : k.has_line ≡ true → k.indent ≡ line_indent (pending_line h)
  pub word : k.word ≡ word_text (open_word h) ++ (replicate m glyph_blank ++ field_text f)
  pub is_open : k.is_open ≡ true
  pub blanks : k.blanks ≡ min (begun h) (2 ^ 33)
  pub has_glyph : k.has_glyph ≡ true
  pub ends_sentence : k.ends_sentence ≡ ends_sentence f.glyphs
  pub place : k.place ≡ moved f.gap (moved (text_width (field_text f)) (moved m (input_place h)))
  pub is_interrupted : k.is_interrupted ≡ is_interrupted h
  pub finished : k.finished ≡ last_text h
  pub last_width : k.last_width ≡ last_width h

module _ (line_cap m : ℕ) (f : Field) (h : History) (k : Kept) where
  pub keeps_told : StandsPlain line_cap (field_told m f h) k → KeepsTold line_cap m f h k
  keeps_told s = record {
    small = s.small;
    within = s.within;
    cap = s.cap;
    no_field = s.no_field;
    settings = s.settings ∙ settings_after-field m f h;
    temporary_indent = s.temporary_indent ∙ temporary_indent-field m f h;
    stops = s.stops ∙ stops_after-field m f h;
    has_line = s.has_line ∙ ap (λ (ws : List Word). not (is_empty ws)) (words-field m f h);
    line = s.line ∙ ap (λ (ws : List Word). line_text (last_line ws)) (words-field m f h);
    indent = λ some. s.indent some ∙ ap (λ (ws : List Word). line_indent (last_line ws)) (words-field m f h);
    word = s.word ∙ word_text-field m f h;
    is_open = s.is_open ∙ has_open_word-field m f h;
    blanks = s.blanks ∙ ap (λ n. min n (2 ^ 33)) (blanks-field m f h);
    has_glyph = s.has_glyph ∙ has_line_glyph-field m f h;
    ends_sentence = s.ends_sentence ∙ ends_sentence-field m f h;
    place = s.place ∙ input_place-field m f h;
    is_interrupted = s.is_interrupted ∙ is_interrupted-field m f h;
    finished = s.finished ∙ ap newest_text (finished_lines-field m f h);
    last_width = s.last_width ∙ ap newest_width (finished_lines-field m f h);
  }

  pub stands_told : KeepsTold line_cap m f h k → StandsPlain line_cap (field_told m f h) k
  stands_told s = record {
    small = s.small;
    within = s.within;
    cap = s.cap;
    no_field = s.no_field;
    settings = s.settings ∙ sym (settings_after-field m f h);
    temporary_indent = s.temporary_indent ∙ sym (temporary_indent-field m f h);
    stops = s.stops ∙ sym (stops_after-field m f h);
    has_line = s.has_line ∙ ap (λ (ws : List Word). not (is_empty ws)) (sym (words-field m f h));
    line = s.line ∙ ap (λ (ws : List Word). line_text (last_line ws)) (sym (words-field m f h));
    indent = λ some. s.indent some ∙ ap (λ (ws : List Word). line_indent (last_line ws)) (sym (words-field m f h));
    word = s.word ∙ sym (word_text-field m f h);
    is_open = s.is_open ∙ sym (has_open_word-field m f h);
    blanks = s.blanks ∙ ap (λ n. min n (2 ^ 33)) (sym (blanks-field m f h));
    has_glyph = s.has_glyph ∙ sym (has_line_glyph-field m f h);
    ends_sentence = s.ends_sentence ∙ sym (ends_sentence-field m f h);
    place = s.place ∙ sym (input_place-field m f h);
    is_interrupted = s.is_interrupted ∙ sym (is_interrupted-field m f h);
    finished = s.finished ∙ ap newest_text (sym (finished_lines-field m f h));
    last_width = s.last_width ∙ ap newest_width (sym (finished_lines-field m f h));
  }

-- the length of what is kept is the pending line's
gap-counted : (is_open has_line : Bool) (one other : ℕ) → (is_open ≡ true → has_line ≡ true → one ≡ other)
    → (if is_open && has_line then one else 0) ≡ (if is_open && has_line then other else 0)
gap-counted true true one other same = same refl refl
gap-counted true false one other same = refl
gap-counted false has_line one other same = refl

pub length-stands : (line_cap : ℕ) (h : History) (k : Kept) → StandsPlain line_cap h k → length_of_words k ≡ pending_length h
length-stands line_cap h k s =
    let gap = gap-counted k.is_open k.has_line k.blanks (blanks h) (λ opened lined. blanks-counted line_cap h k s opened lined) in
    let same : (if k.is_open && k.has_line then blanks h else 0) ≡ (if has_open_word h && not (is_empty (words h)) then blanks h else 0) =
    ap (λ (o : Bool). if o && k.has_line then blanks h else 0) s.is_open ∙ ap (λ (l : Bool). if has_open_word h && l then blanks h else 0) s.has_line in
    omega (arith, gap, same, ap length s.line, ap length s.word)

-- what is kept with this field's text at its tab
abbrev pub left_of : Kept → KeptField → Kept
left_of k kept = record k { word = k.word ++ kept.text; field = None; is_open = true; blanks = kept.word_blanks }

-- and what is kept behind this field's end
abbrev pub ended_of : Kept → KeptField → Kept
ended_of k kept = record k {
  word = k.word ++ (replicate (kept_motion kept) glyph_blank ++ kept.text);
  field = None;
  is_open = true;
  blanks = kept.word_blanks;
  place = moved (kept_motion kept) k.place;
}

module _ (line_cap : ℕ) (h : History) (f : Field) (k : Kept) (s : StandsInField line_cap h f k) where
  pub left-stands : StandsPlain line_cap (field_told 0 f h) (left_of k s.field)
  left-stands =
      subst (λ (o : Option KeptField). StandsPlain line_cap (field_told 0 f h) (elim o [ None ↦ k | Some kept ↦ left_of k kept ])) s.field_is s.left

  pub left : KeepsTold line_cap 0 f h (left_of k s.field)
  left = keeps_told line_cap 0 f h (left_of k s.field) left-stands

  pub kept_length-is : kept_length k ≡ pending_length (field_told 0 f h)
  kept_length-is =
      ap (λ (o : Option KeptField). length_of_words (elim o [ None ↦ k | Some kept ↦ left_of k kept ])) s.field_is
      ∙ length-stands line_cap (field_told 0 f h) (left_of k s.field) left-stands

  -- a glyph more
  length_told-is : (g : Glyph) → length_told g k ≡ pending_length (field_told 0 f h) + k.blanks + length (glyph_text g)
  length_told-is g =
      ap (λ (o : Option KeptField). elim o [ None ↦ length_with g k | Some kept ↦ kept_length k + k.blanks + length (glyph_text g) ]) s.field_is
      ∙ ap (λ n. n + k.blanks + length (glyph_text g)) kept_length-is

  pending_length-glyph : (g : Glyph) → pending_length (field_told 0 (with_glyph g f) h) ≡ pending_length (field_told 0 f h) + f.gap + length (glyph_text g)
  pending_length-glyph g =
      omega (arith, pending_length-field 0 (with_glyph g f) h, pending_length-field 0 f h, length-field_glyph g f)

  pub limit-glyph : (g : Glyph) → (k.cap < length_told g k) ↔ (line_cap < pending_length (field_told 0 (with_glyph g f) h))
  limit-glyph g = (
    λ over. omega (arith, over, length_told-is g, pending_length-glyph g, s.gap, left.cap, left.small),
    λ over. omega (arith, over, length_told-is g, pending_length-glyph g, s.gap, left.cap, left.small),
  )

  -- whether a sentence ends in front of it
  ends-in_front : k.blanks ≡ f.gap → (k.blanks == 0 && k.ends_sentence) ≡ ends_sentence (if f.gap == 0 then f.glyphs else Blanks f.gap ∷ f.glyphs)
  ends-in_front whole =
      let by : (none : Bool) → (none && k.ends_sentence) ≡ ends_sentence (if none then f.glyphs else Blanks f.gap ∷ f.glyphs) =
      λ none. elim none as (λ (b : Bool). (b && k.ends_sentence) ≡ ends_sentence (if b then f.glyphs else Blanks f.gap ∷ f.glyphs)) [ true ↦ left.ends_sentence | false ↦ refl ] in
      ap (λ n. n == 0 && k.ends_sentence) whole ∙ by (f.gap == 0)

  pub Stands-glyph_in : (g : Glyph) → length_told g k ≤ k.cap → StandsInField line_cap h (with_glyph g f) (with_glyph_told g k)
  Stands-glyph_in g room =
      let whole : k.blanks ≡ f.gap = omega (arith, room, length_told-is g, s.gap, left.cap, left.small) in
      let more : List ℕ = replicate k.blanks glyph_blank ++ glyph_text g in
      let before : List ℕ = word_text (open_word h) in
      let text : field_text f ++ more ≡ field_text (with_glyph g f) =
      ap (λ n. field_text f ++ (replicate n glyph_blank ++ glyph_text g)) whole ∙ sym (field_text-glyph g f) in
      let now : Kept = with_glyph_in g s.field k in
      let is : with_glyph_told g k ≡ now =
      ap (λ (o : Option KeptField). elim o [ None ↦ kept_with_glyph g k | Some kept ↦ with_glyph_in g kept k ]) s.field_is in
      subst (StandsInField line_cap h (with_glyph g f)) (sym is) (record {
        field = record s.field { text = s.field.text ++ more };
        field_is = refl;
        way = s.way;
        is_centred = s.is_centred;
        text = ap (λ (t : List ℕ). t ++ more) s.text ∙ text;
        gap = omega arith;
        none_open = s.none_open;
        left =
            stands_told line_cap 0 (with_glyph g f) h (with_field_left now) (record {
              small = left.small;
              within = omega (arith, room, length_told-is g, pending_length-glyph g, whole, left.cap);
              cap = left.cap;
              no_field = refl;
              settings = left.settings;
              temporary_indent = left.temporary_indent;
              stops = left.stops;
              has_line = left.has_line;
              line = left.line;
              indent = left.indent;
              word =
                  sym (append_assoc k.word s.field.text more) ∙ ap (λ (t : List ℕ). t ++ more) left.word ∙ append_assoc before (field_text f) more
                  ∙ ap (λ (t : List ℕ). before ++ t) text;
              is_open = refl;
              blanks = left.blanks;
              has_glyph = refl;
              ends_sentence = ap (λ (e : Bool). if is_closer g then e else is_sentence_mark g) (ends-in_front whole);
              place = omega (arith, left.place, text_width-field_glyph g f);
              is_interrupted = left.is_interrupted;
              finished = left.finished;
              last_width = left.last_width;
            });
      })

  -- the word's text up to the tab
  pub word_before : k.word ≡ word_text (open_word h)
  word_before = append_cancel_right k.word (word_text (open_word h)) s.field.text (left.word ∙ ap (λ (t : List ℕ). word_text (open_word h) ++ t) (sym s.text))

  -- the field's end
  pub motion-is : kept_motion s.field ≡ motion f
  motion-is =
      ap (λ n. n - (if s.field.is_centred then text_width s.field.text / 2 else text_width s.field.text)) s.way
      ∙ ap (λ (c : Bool). f.way - (if c then text_width s.field.text / 2 else text_width s.field.text)) s.is_centred
      ∙ ap (λ (t : List ℕ). f.way - (if f.is_centred then text_width t / 2 else text_width t)) s.text

  pub length_ended-is : length_ended k ≡ pending_length (field_told (motion f) f h)
  length_ended-is =
      ap (λ (o : Option KeptField). elim o [ None ↦ kept_length k | Some kept ↦ kept_length k + kept_motion kept ]) s.field_is
      ∙ omega (arith, kept_length-is, motion-is, pending_length-motion (motion f) f h)

  pub limit-ended : (k.cap < length_ended k) ↔ (line_cap < pending_length (field_told (motion f) f h))
  limit-ended = (λ over. omega (arith, over, length_ended-is, left.cap), λ over. omega (arith, over, length_ended-is, left.cap))

  -- what is kept behind it
  pub with_field_ended-is : with_field_ended k ≡ ended_of k s.field
  with_field_ended-is = ap (λ (o : Option KeptField). elim o [ None ↦ k | Some kept ↦ ended_of k kept ]) s.field_is

  pub keeps_ended : length_ended k ≤ k.cap → KeepsTold line_cap (motion f) f h (ended_of k s.field)
  keeps_ended room =
      let before : List ℕ = word_text (open_word h) in
      let blank : List ℕ = replicate (motion f) glyph_blank in
      record {
        small = left.small;
        within = omega (arith, room, length_ended-is, left.cap);
        cap = left.cap;
        no_field = refl;
        settings = left.settings;
        temporary_indent = left.temporary_indent;
        stops = left.stops;
        has_line = left.has_line;
        line = left.line;
        indent = left.indent;
        word = ap₂ (λ (t : List ℕ) (n : ℕ). t ++ (replicate n glyph_blank ++ s.field.text)) word_before motion-is ∙ ap (λ (t : List ℕ). before ++ (blank ++ t)) s.text;
        is_open = refl;
        blanks = left.blanks;
        has_glyph = left.has_glyph;
        ends_sentence = left.ends_sentence;
        place = omega (arith, left.place, motion-is);
        is_interrupted = left.is_interrupted;
        finished = left.finished;
        last_width = left.last_width;
      }

  pub Stands-field_ended : length_ended k ≤ k.cap → StandsPlain line_cap (field_told (motion f) f h) (with_field_ended k)
  Stands-field_ended room =
      subst (StandsPlain line_cap (field_told (motion f) f h)) (sym with_field_ended-is)
      (stands_told line_cap (motion f) f h (ended_of k s.field) (keeps_ended room))

  -- a tab behind it: the word before a gap at the field's end ends too
  pub gapless : f.gap ≡ 0 → without_gap f ≡ f
  gapless none = ap (λ n. record f { gap = n }) (sym none)

  pub gap-none : (k.blanks == 0) ≡ (f.gap == 0)
  gap-none = ap (λ n. n == 0) s.gap ∙ grind (arith, nat_tests)
