-- Text lines that are finished as they stand, where words aren't measured.
use Rattle.std.proofs.Common.{◌≡◌, ℕ, ◌+◌, ◌-◌, ◌<◌, ◌≤◌, Bool, true, false, inl, inr, List, [], ◌∷◌, ◌++◌, length, take, slice_index_or, refl, sym, ap, subst, ◌∙◌, arith, append_assoc, Some, None, nat_le, if◌then◌else◌, length-append, length-take}
use Rattle.std.proofs.lemmas.Bool.Decides.{nat_tests}
use Rattle.std.proofs.lemmas.List.Sums.{sum_by-append, sum_by-cons}
use Rattle.std.proofs.lemmas.List.{take_more}
use Rattle.page_model.specs.declared.event.Event.TheVariants.{LineEnd}
use Rattle.page_model.specs.Glyphs.{text_width}
use Rattle.roff_num.specs.Widths.{byte_width}
use Rattle.page_model.specs.LastLine.{line_width}
use Rattle.page_model.specs.Lines.{laid_out}
use Rattle.page_model.specs.Words.{indent_by}
use Rattle.page_model.specs.Places.{moved}
use Rattle.roff_lines.specs.Env.Kept.{Kept, begun_blanks, finished_by_line_end, finished_by_word, with_field_left, with_glyphs, with_input_line_ended, with_word_ended, word_finishes, word_fits}
use Rattle.roff_lines.specs.Env.Stands.{Finishes, StandsBehind}
use Rattle.roff_lines.specs.Env.Tells.{GoesOn, IsRun, Nothing, Begins, Further, TellsPlain}
use Rattle.roff_lines.specs.Env.Unfilled.{AreWords, EndsAtOnce, EndsLine, PutsLines, line_of, with_line_put}
use Rattle.roff_lines.proofs.Tells.{Tells-append}
use Rattle.roff_lines.proofs.TextRuns.{Tells-blank}
use Rattle.roff_lines.proofs.ToldGlyphs.{Tells-glyph}
use Rattle.roff_lines.proofs.WholeWords.{Stands-gap, behind_gap}
use Rattle.roff_lines.proofs.LinesTold.{Finishes-line_end, Finishes-word_end, StandsBehind-line_end, StandsBehind-word_end, field-word_ended}
use Rattle.roff_lines.proofs.PlainStanding.{Tells-plain}
use Rattle.roff_lines.proofs.Standing.{with_field_left-none}
use Rattle.roff_lines.proofs.WordRuns.{blank_or_above}

module _ (k : Kept) (puts : PutsLines k) where
  -- behind one word so far
  abbrev one_word : List ℕ → ℕ → Bool → ℕ → Kept
  one_word word blanks ends place = record k {
    line = [];
    has_line = false;
    word = word;
    is_open = true;
    blanks = blanks;
    has_glyph = true;
    ends_sentence = ends;
    place = place;
  }

  -- behind more than one, of which the last is open or a blank stands behind it
  abbrev more_words : List ℕ → List ℕ → Bool → Bool → ℕ → Kept
  more_words line word is_open ends place = record k {
    temporary_indent = None;
    line = line;
    indent = indent_by k.temporary_indent k.settings;
    has_line = true;
    word = word;
    is_open = is_open;
    blanks = 1;
    has_glyph = true;
    ends_sentence = ends;
    place = place;
  }

  -- this text stands behind that of the open word
  data Pending (text : List ℕ) (s : Kept) : Type 0 where
    OneWord : (blanks : ℕ) (ends : Bool) (place : ℕ) → s ≡ one_word (k.word ++ text) blanks ends place → Pending text s
    MoreWords : (line word : List ℕ) (is_open ends : Bool) (place : ℕ) → k.word ++ text ≡ line ++ 32 ∷ word → (is_open ≡ false → word ≡ [])
        → s ≡ more_words line word is_open ends place → Pending text s

  -- some bytes were told, behind which this text stands, and its last word is open or not
  record Told (bytes text : List ℕ) (is_open : Bool) (old : Kept) : Type 0 where
    pub behind : Kept
    pub tells : TellsPlain bytes old behind
    pub pending : Pending text behind
    pub open_is : behind.is_open ≡ is_open

  -- a glyph more
  told_glyph : (text : List ℕ) (b : ℕ) (s : Kept) → 32 < b → length k.word + length text + 1 ≤ k.cap → Pending text s
      → Told (b ∷ []) (text ++ b ∷ []) true s
  told_glyph text b s above room (OneWord blanks ends place is) =
      let here : Kept = one_word (k.word ++ text) blanks ends place in
      let there : Kept = with_glyphs (b ∷ []) here in
      subst (Told (b ∷ []) (text ++ b ∷ []) true) (sym is) (record {
        behind = there;
        tells = Tells-glyph b above here (omega (arith, room, length-append k.word text));
        pending = OneWord there.blanks there.ends_sentence there.place
            (ap (λ (xs : List ℕ). one_word xs there.blanks there.ends_sentence there.place) (append_assoc k.word text (b ∷ [])));
        open_is = refl;
      })
  told_glyph text b s above room (MoreWords line word is_open ends place split none is) =
      let here : Kept = more_words line word is_open ends place in
      let there : Kept = with_glyphs (b ∷ []) here in
      subst (Told (b ∷ []) (text ++ b ∷ []) true) (sym is) (record {
        behind = there;
        tells = Tells-glyph b above here (omega (arith, room, ap length split, length-append k.word text, length-append line (32 ∷ word)));
        pending = MoreWords line (word ++ b ∷ []) true there.ends_sentence there.place
            (sym (append_assoc k.word text (b ∷ [])) ∙ ap (λ (xs : List ℕ). xs ++ b ∷ []) split ∙ append_assoc line (32 ∷ word) (b ∷ []))
            (λ closed. absurd (cc)) refl;
        open_is = refl;
      })

  -- what words are measured by
  fits-unfilled : (line word : List ℕ) (is_open ends : Bool) (place : ℕ) → word_fits (more_words line word is_open ends place) ≡ true
  fits-unfilled line word is_open ends place = rw puts.unfilled refl

  -- a blank more, behind an open word
  told_blank : (text : List ℕ) (s : Kept) → s.is_open ≡ true → Pending text s → Told (32 ∷ []) (text ++ 32 ∷ []) false s
  told_blank text s opened (OneWord blanks ends place is) =
      let word : List ℕ = k.word ++ text in
      let here : Kept = one_word word blanks ends place in
      let mid : Kept = with_word_ended here in
      subst (Told (32 ∷ []) (text ++ 32 ∷ []) false) (sym is) (record {
        behind = behind_gap 1 mid;
        tells = Tells-blank here mid (behind_gap 1 mid) refl refl (Stands-gap 1 mid refl refl) refl;
        pending = MoreWords word [] false ends (moved 1 place) (sym (append_assoc k.word text (32 ∷ []))) (λ closed. refl) refl;
        open_is = refl;
      })
  told_blank text s opened (MoreWords line word false ends place split none is) =
      absurd (let wrong : true ≡ false = sym opened ∙ ap (λ (s : Kept). s.is_open) is in cc)
  told_blank text s opened (MoreWords line word true ends place split none is) =
      let here : Kept = more_words line word true ends place in
      let mid : Kept = record here { line = line ++ 32 ∷ word; word = []; is_open = false; blanks = 0 } in
      let fits = fits-unfilled line word true ends place in
      let ended : mid ≡ with_word_ended here = rw fits refl in
      let stays : word_finishes here ≡ false = rw fits refl in
      subst (Told (32 ∷ []) (text ++ 32 ∷ []) false) (sym is) (record {
        behind = behind_gap 1 mid;
        tells = Tells-blank here mid (behind_gap 1 mid) stays ended (Stands-gap 1 mid refl refl) refl;
        pending = MoreWords (line ++ 32 ∷ word) [] false ends (moved 1 place)
            (sym (append_assoc k.word text (32 ∷ [])) ∙ ap (λ (xs : List ℕ). xs ++ 32 ∷ []) split) (λ closed. refl) refl;
        open_is = refl;
      })

  -- so many bytes in front were told
  record ToldRun (bytes : List ℕ) (count : ℕ) : Type 0 where
    pub is_open : Bool
    pub told : Told (take count bytes) (take count bytes) is_open k
    pub opened : (slice_index_or bytes (count - 1) 0 ≡ 32 → ⊥) → is_open ≡ true

  module _ (bytes : List ℕ) where
    -- one byte more, where it is told
    told_more : (count : ℕ) (is_open was_open : Bool) → count < length bytes → (t : Told (take count bytes) (take count bytes) was_open k)
        → Told (slice_index_or bytes count 0 ∷ []) (take count bytes ++ slice_index_or bytes count 0 ∷ []) is_open t.behind
        → Told (take (count + 1) bytes) (take (count + 1) bytes) is_open k
    told_more count is_open was_open within t one =
        let b : ℕ = slice_index_or bytes count 0 in
        let same : take count bytes ++ b ∷ [] ≡ take (count + 1) bytes = sym (take_more bytes count 0 within) in
        record {
          behind = one.behind;
          tells = subst (λ (xs : List ℕ). TellsPlain xs k one.behind) same (Tells-append (take count bytes) (b ∷ []) k t.behind one.behind t.tells one.tells);
          pending = subst (λ (xs : List ℕ). Pending xs one.behind) same one.pending;
          open_is = one.open_is;
        }

    -- the first byte
    told_first : 0 < length bytes → length k.word + 1 ≤ k.cap → GoesOn 32 (slice_index_or bytes 0 0) → ToldRun bytes 1
    told_first some room first =
        let b : ℕ = slice_index_or bytes 0 0 in
        let sum : b ≡ 32 + (b - 32) = omega (arith, first.above) in
        elim (blank_or_above b (b - 32) sum) [
          | inl blank ↦ absurd (first.single blank refl)
          | inr above ↦
              let there : Kept = with_glyphs (b ∷ []) k in
              let same : b ∷ [] ≡ take 1 bytes = sym (take_more bytes 0 0 some) in
              let is : there ≡ one_word (k.word ++ b ∷ []) there.blanks there.ends_sentence there.place =
              ap (λ (xs : List ℕ). record there { line = xs }) puts.no_text ∙ ap (λ (c : Bool). record there { line = []; has_line = c }) puts.no_line in
              let free : (if k.has_line then begun_blanks k else 0) ≡ 0 = ap (λ (c : Bool). if c then begun_blanks k else 0) puts.no_line in
              record {
                is_open = true;
                told = record {
                  behind = there;
                  tells = subst (λ (xs : List ℕ). TellsPlain xs k there) same (Tells-glyph b above k (omega (arith, room, ap length puts.no_text, free)));
                  pending = subst (λ (xs : List ℕ). Pending xs there) same (OneWord there.blanks there.ends_sentence there.place is);
                  open_is = refl;
                };
                opened = λ other. refl;
              }
        ]

    -- and each other one
    told_next : (count : ℕ) → count < length bytes → length k.word + count + 1 ≤ k.cap → ToldRun bytes count
        → GoesOn (slice_index_or bytes (count - 1) 0) (slice_index_or bytes count 0) → ToldRun bytes (count + 1)
    told_next count within room run goes =
        let b : ℕ = slice_index_or bytes count 0 in
        let t = run.told in
        let sum : b ≡ 32 + (b - 32) = omega (arith, goes.above) in
        let last : slice_index_or bytes (count + 1 - 1) 0 ≡ b = ap (λ n. slice_index_or bytes n 0) (omega arith) in
        elim (blank_or_above b (b - 32) sum) [
          | inl blank ↦
              let opened : t.behind.is_open ≡ true = t.open_is ∙ run.opened (goes.single blank) in
              let one : Told (b ∷ []) (take count bytes ++ b ∷ []) false t.behind =
              subst (λ c. Told (c ∷ []) (take count bytes ++ c ∷ []) false t.behind) (sym blank) (told_blank (take count bytes) t.behind opened t.pending) in
              record {
                is_open = false;
                told = told_more count false run.is_open within t one;
                opened = λ other. absurd (other (last ∙ blank));
              }
          | inr above ↦
              let one = told_glyph (take count bytes) b t.behind above (omega (arith, room, within, length-take count bytes)) t.pending in
              record {
                is_open = true;
                told = told_more count true run.is_open within t one;
                opened = λ other. refl;
              }
        ]

    told_run : (count : ℕ) → IsRun bytes count → 0 < count → count ≤ length bytes → length k.word + count ≤ k.cap → ToldRun bytes count
    told_run _ Nothing some within room = absurd (omega (arith, some))
    told_run _ (Begins first) some within room = told_first (omega (arith, within)) room first
    told_run _ (Further count more run goes) some within room =
        told_next count (omega (arith, within)) (omega (arith, room)) (told_run count run more (omega (arith, within)) (omega (arith, room))) goes

  -- behind the open word and then the line of the input ended
  record Ends (text : List ℕ) (s : Kept) : Type 0 where
    pub stays : word_finishes s ≡ false
    pub kept : with_line_put text k ≡ with_input_line_ended (with_word_ended s)
    pub line : finished_by_line_end (with_word_ended s) ≡ Some (line_of text k)

  ends_pending : (text : List ℕ) (s : Kept) → s.is_open ≡ true → Pending text s → Ends text s
  ends_pending text s opened (OneWord blanks ends place is) =
      subst (Ends text) (sym is) (record {
        stays = refl;
        kept = rw puts.unfilled refl;
        line = rw puts.unfilled refl;
      })
  ends_pending text s opened (MoreWords line word false ends place split none is) =
      absurd (let wrong : true ≡ false = sym opened ∙ ap (λ (s : Kept). s.is_open) is in cc)
  ends_pending text s opened (MoreWords line word true ends place split none is) =
      let here : Kept = more_words line word true ends place in
      let mid : Kept = record here { line = line ++ 32 ∷ word; word = []; is_open = false; blanks = 0 } in
      let fits = fits-unfilled line word true ends place in
      let ended : mid ≡ with_word_ended here = rw fits refl in
      let whole : Kept = with_line_put text k in
      let indent : ℕ = indent_by k.temporary_indent k.settings in
      let put : with_line_put text k ≡ with_input_line_ended mid =
      ap (λ (xs : List ℕ). record whole { finished = xs; last_width = line_width (laid_out k.settings false indent xs) }) split ∙ rw puts.unfilled refl in
      let finished : finished_by_line_end mid ≡ Some (line_of text k) =
      rw puts.unfilled (ap (λ (xs : List ℕ). Some (laid_out k.settings false indent xs)) (sym split)) in
      subst (Ends text) (sym is) (record {
        stays = rw fits refl;
        kept = put ∙ ap with_input_line_ended ended;
        line = ap finished_by_line_end (sym ended) ∙ finished;
      })

-- so such bytes and the end of the line finish it at once
pub ends_at_once : (bytes : List ℕ) (count gaps : ℕ) (k : Kept) → EndsLine bytes count gaps k
    → EndsAtOnce (take count bytes) (line_of (take count bytes) k) k (with_line_put (take count bytes) k)
ends_at_once bytes count gaps k e =
    let w = e.words in
    let run = told_run k e.puts bytes count w.run w.some w.within e.room in
    let t = run.told in
    let ends = ends_pending k e.puts (take count bytes) t.behind (t.open_is ∙ run.opened w.last) t.pending in
    let ended : Kept = with_word_ended t.behind in
    let closed : ended.field ≡ None = field-word_ended t.behind ∙ (t.tells.field ∙ e.puts.no_field) in
    let none : finished_by_word t.behind ≡ None =
    ap (λ (c : Bool). if c then Some (laid_out t.behind.settings true t.behind.indent t.behind.line) else None) ends.stays in
    let left : with_field_left ended ≡ ended = with_field_left-none ended closed in
    record {
      told = t.behind;
      tells = Tells-plain (take count bytes) k t.behind e.puts.no_field t.tells;
      ended = ended;
      no_field = closed;
      word_end = StandsBehind-word_end t.behind;
      quiet = λ line_cap h s. sym none ∙ Finishes-word_end t.behind line_cap h s;
      line_end = subst (StandsBehind ended LineEnd) (ap with_input_line_ended left ∙ sym ends.kept) (StandsBehind-line_end ended);
      finishes = subst (Finishes ended LineEnd) (ap finished_by_line_end left ∙ ends.line) (Finishes-line_end ended);
    }

-- what is a character by itself is one column wide, and so is a blank
byte_width-below : (b : ℕ) → b < 128 → byte_width b ≡ 1
byte_width-below b below =
    let no : nat_le 128 b ≡ false = grind (arith, nat_tests) in
    rw no refl

width-more : (bytes : List ℕ) (count : ℕ) → count < length bytes → slice_index_or bytes count 0 < 128
    → text_width (take (count + 1) bytes) ≡ text_width (take count bytes) + 1
width-more bytes count within below =
    let b : ℕ = slice_index_or bytes count 0 in
    ap text_width (take_more bytes count 0 within)
    ∙ omega (arith, sum_by-append byte_width (take count bytes) (b ∷ []), sum_by-cons byte_width b [], byte_width-below b below)

width-run : (bytes : List ℕ) (count : ℕ) → IsRun bytes count → count ≤ length bytes → text_width (take count bytes) ≡ count
width-run bytes _ Nothing within = refl
width-run bytes _ (Begins first) within = width-more bytes 0 (omega (arith, within)) first.below
width-run bytes _ (Further count some run goes) within =
    width-more bytes count (omega (arith, within)) goes.below ∙ ap (λ n. n + 1) (width-run bytes count run (omega (arith, within)))

-- such bytes are as wide as they are long
pub width-ended : (bytes : List ℕ) (count gaps : ℕ) → AreWords bytes count gaps → text_width (take count bytes) ≡ count
width-ended bytes count gaps w = width-run bytes count w.run w.within
