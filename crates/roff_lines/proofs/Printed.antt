-- A glyph, where an environment stands for its history.
use Rattle.std.proofs.Common.{◌≡◌, ℕ, ◌+◌, ◌<◌, ◌≤◌, ◌^◌, min, Bool, true, false, [], ◌∷◌, ◌++◌, length, refl, sym, ap, ◌∙◌, arith, reverse, if◌then◌else◌, not, ◌&&◌, List, append-nil, length-append}
use Rattle.std.specs.List.{flat_map}
use Rattle.std.proofs.lemmas.Grind.{flat_map-append}
use Rattle.std.proofs.lemmas.List.{reverse-append}
use Rattle.page_model.specs.declared.glyph.Glyph.{Glyph}
use Rattle.page_model.specs.Glyphs.{glyph_text, glyph_width}
use Rattle.page_model.specs.declared.event.Event.TheVariants.{Print}
use Rattle.page_model.specs.Events.{History}
use Rattle.page_model.specs.Places.{moved}
use Rattle.page_model.specs.Fitting.{word_text, line_text}
use Rattle.page_model.specs.Words.{is_empty, is_closer, is_sentence_mark, ends_sentence, blanks, has_open_word, last_word_glyphs, open_glyphs, open_word, words}
use Rattle.page_model.specs.Lines.{pending_line, pending_length}
use Rattle.roff_lines.specs.Env.Kept.{Kept, begun_blanks, ends_in_word, length_with, kept_with_glyph}
use Rattle.roff_lines.specs.Env.Stands.{StandsPlain}
use Rattle.roff_lines.proofs.Gaps.{begun_blanks-stands}

-- blanks that are counted up to more than the limit are all counted, where they are within it
all_counted : (gap : Bool) (line blanks word more cap : ℕ) → cap < 2 ^ 32
    → line + (if gap then min blanks (2 ^ 33) else 0) + word + more ≤ cap → line + (if gap then blanks else 0) + (word + more) ≤ cap
all_counted true line blanks word more cap small within = omega arith
all_counted false line blanks word more cap small within = omega arith

-- no more are counted than there are
counted_few : (gap : Bool) (line blanks word more cap : ℕ)
    → line + (if gap then blanks else 0) + (word + more) ≤ cap → line + (if gap then min blanks (2 ^ 33) else 0) + word + more ≤ cap
counted_few true line blanks word more cap within = omega arith
counted_few false line blanks word more cap within = omega arith

-- a sentence ends with an open word as with its glyphs, and with none where no word is open
ends-open : (is_open : Bool) (glyphs : List Glyph) → (is_open && ends_sentence glyphs) ≡ ends_sentence (if is_open then glyphs else [])
ends-open true glyphs = refl
ends-open false glyphs = refl

module _ (line_cap : ℕ) (h : History) (k : Kept) (s : StandsPlain line_cap h k) (g : Glyph) where
  -- the open word has the glyph at its end
  word-print : k.word ++ glyph_text g ≡ word_text (open_word (Print g ∷ h))
  word-print =
      let before = reverse (open_glyphs h) in
      let back : reverse (g ∷ open_glyphs h) ≡ before ++ g ∷ [] = reverse-append (g ∷ []) (open_glyphs h) in
      let text : flat_map glyph_text (reverse (g ∷ open_glyphs h)) ≡ flat_map glyph_text before ++ glyph_text g =
      ap (flat_map glyph_text) back ∙ flat_map-append glyph_text before (g ∷ [])
      ∙ ap (λ t. flat_map glyph_text before ++ t) (append-nil (glyph_text g)) in
      ap (λ w. w ++ glyph_text g) s.word ∙ sym text

  -- the pending line has its bytes more, and those of the gap where it begins a word
  length-print : pending_length (Print g ∷ h)
      ≡ length k.line + (if k.has_line then blanks (Print g ∷ h) else 0) + (length k.word + length (glyph_text g))
  length-print =
      let begun : ℕ = blanks (Print g ∷ h) in
      let line : length (line_text (pending_line h)) ≡ length k.line = ap length (sym s.line) in
      let gap : (if not (is_empty (words h)) then begun else 0) ≡ (if k.has_line then begun else 0) =
      ap (λ v. if v then begun else 0) (sym s.has_line) in
      let word : length (word_text (open_word (Print g ∷ h))) ≡ length k.word + length (glyph_text g) =
      ap length (sym word-print) ∙ length-append k.word (glyph_text g) in
      omega (arith, line, gap, word)

  -- the blanks of that gap are counted
  counted : (if k.has_line then begun_blanks k else 0) ≡ (if k.has_line then min (blanks (Print g ∷ h)) (2 ^ 33) else 0)
  counted = ap (λ n. if k.has_line then n else 0) (begun_blanks-stands line_cap h k s g)

  -- so it is within the limit exactly where what is kept is
  pub within-print : length_with g k ≤ k.cap → pending_length (Print g ∷ h) ≤ line_cap
  within-print room =
      let within = all_counted k.has_line (length k.line) (blanks (Print g ∷ h)) (length k.word) (length (glyph_text g)) line_cap s.small
      (omega (arith, s.cap, counted, room)) in
      omega (arith, length-print, within)

  pub room-print : pending_length (Print g ∷ h) ≤ line_cap → length_with g k ≤ k.cap
  room-print within =
      let room = counted_few k.has_line (length k.line) (blanks (Print g ∷ h)) (length k.word) (length (glyph_text g)) line_cap
      (omega (arith, length-print, within)) in
      omega (arith, s.cap, counted, room)

  -- a sentence ends in front of it in its word where the definition says so
  ends_in_word-stands : ends_in_word k ≡ ends_sentence (if has_open_word h then last_word_glyphs h else [])
  ends_in_word-stands =
      ap (λ o. o && k.ends_sentence) s.is_open ∙ ap (λ e. has_open_word h && e) s.ends_sentence
      ∙ ends-open (has_open_word h) (last_word_glyphs h)

  -- what is kept behind it stands for the history with it
  pub Stands-print : length_with g k ≤ k.cap → StandsPlain line_cap (Print g ∷ h) (kept_with_glyph g k)
  Stands-print room = record {
    small = s.small;
    within = within-print room;
    cap = s.cap;
    no_field = s.no_field;
    settings = s.settings;
    temporary_indent = s.temporary_indent;
    stops = s.stops;
    has_line = s.has_line;
    line = s.line;
    indent = s.indent;
    word = word-print;
    is_open = refl;
    blanks = begun_blanks-stands line_cap h k s g;
    has_glyph = refl;
    ends_sentence = ap (λ e. if is_closer g then e else is_sentence_mark g) ends_in_word-stands;
    place = ap (moved (glyph_width g)) s.place;
    is_interrupted = s.is_interrupted;
    finished = s.finished;
    last_width = s.last_width;
  }
