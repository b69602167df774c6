-- The gap of a word that begins, where an environment stands for its history.
use Rattle.std.proofs.Common.{◌≡◌, ℕ, zero, suc, ◌<◌, ◌≤◌, ◌^◌, min, Bool, true, false, List, [], ◌∷◌, refl, sym, ap, ◌∙◌, arith, if◌then◌else◌, ◌==◌, true≢false}
use Rattle.std.proofs.lemmas.Bool.{cond_both}
use Rattle.std.proofs.lemmas.Bool.Decides.{nat_tests}
use Rattle.page_model.specs.declared.glyph.Glyph.{Glyph}
use Rattle.page_model.specs.declared.event.Event.TheVariants.{Print, Tab, FieldEnd, WordEnd, Gap, LineEnd, Count, Break, Interrupt, Resume, Set}
use Rattle.page_model.specs.Events.{History}
use Rattle.page_model.specs.Places.{has_line_glyph}
use Rattle.page_model.specs.Words.{has_open_word, last_word_glyphs, begun_gap, blanks}
use Rattle.roff_lines.specs.Env.Kept.{Kept, begun_blanks}
use Rattle.roff_lines.specs.Env.Stands.{StandsPlain, StandsPlainBehind}
use Rattle.roff_lines.proofs.LastLine.{last_text-none, last_width-none}

-- the blanks of a line's end, where there are none
abbrev begun : ℕ → Bool → ℕ
begun n ends = if n == 0 then (if ends then 2 else 1) else n

-- they are some
begun-some : (n : ℕ) (ends : Bool) → 0 < begun n ends
begun-some n ends =
    cond_both (n == 0) _ n (λ m. 0 < m) (λ _. cond_both ends 2 1 (λ m. 0 < m) (λ _. omega arith) (λ _. omega arith))
    (λ some. grind (arith, nat_tests))

-- where there are blanks, they stay
pub begun-same : (n : ℕ) (ends : Bool) → 0 < n → begun n ends ≡ n
begun-same n ends some =
    let is_some : (n == 0) ≡ false = grind (arith, nat_tests) in ap (λ none. if none then (if ends then 2 else 1) else n) is_some

-- so they do for the next glyph
begun-twice : (n : ℕ) (ends later : Bool) → begun (begun n ends) later ≡ begun n ends
begun-twice n ends later = begun-same (begun n ends) later (begun-some n ends)

-- blanks are counted up to a limit
begun-counted : (n : ℕ) (ends : Bool) → begun (min n (2 ^ 33)) ends ≡ min (begun n ends) (2 ^ 33)
begun-counted zero true = refl
begun-counted zero false = refl
begun-counted (suc n) ends =
    begun-same (min (suc n) (2 ^ 33)) ends (omega arith) ∙ ap (λ m. min m (2 ^ 33)) (sym (begun-same (suc n) ends (omega arith)))

-- a word that begins has a gap
begun_gap-some : (n : ℕ) (glyphs : List Glyph) → 0 < begun_gap n glyphs
begun_gap-some n glyphs = begun-some n _

-- the one before it, if there is one
pub begun_gap-same : (n : ℕ) (glyphs : List Glyph) → 0 < n → begun_gap n glyphs ≡ n
begun_gap-same n glyphs some = begun-same n _ some

-- whichever of two numbers it is, it is some
either-some : (first : Bool) (m n : ℕ) → (first ≡ true → 0 < m) → 0 < n → 0 < (if first then m else n)
either-some true m n one other = one refl
either-some false m n one other = other

-- so an open word has one
pub blanks-open : (h : History) → has_open_word h ≡ true → 0 < blanks h
blanks-open [] is_open = absurd (true≢false (sym is_open))
blanks-open (Print g ∷ h) is_open =
    either-some (has_open_word h) (blanks h) (begun_gap (blanks h) (last_word_glyphs h)) (blanks-open h) (begun_gap-some (blanks h) (last_word_glyphs h))
blanks-open (Tab ∷ h) is_open =
    either-some (has_open_word h) (blanks h) (begun_gap (blanks h) (last_word_glyphs h)) (blanks-open h) (begun_gap-some (blanks h) (last_word_glyphs h))
blanks-open (WordEnd ∷ h) is_open = absurd (true≢false (sym is_open))
blanks-open (Gap n ∷ h) is_open = rw is_open (blanks-open h is_open)
blanks-open (LineEnd ∷ h) is_open = rw is_open (blanks-open h is_open)
blanks-open (Count ∷ h) is_open = blanks-open h is_open
blanks-open (Break ∷ h) is_open = rw is_open (blanks-open h is_open)
blanks-open (Interrupt ∷ h) is_open = blanks-open h is_open
blanks-open (Resume ∷ h) is_open = blanks-open h is_open
blanks-open (FieldEnd ∷ h) is_open = blanks-open h is_open
blanks-open (Set p ∷ h) is_open = blanks-open h is_open

-- whether a word is open or begins, its blanks are counted up to the limit
begun-either : (first : Bool) (n : ℕ) (ends : Bool) → (first ≡ true → 0 < n)
    → begun (min n (2 ^ 33)) ends ≡ min (if first then n else begun n ends) (2 ^ 33)
begun-either true n ends some = begun-counted n ends ∙ ap (λ m. min m (2 ^ 33)) (begun-same n ends (some refl))
begun-either false n ends some = begun-counted n ends

-- the gap of the next glyph's word is the definition's
pub begun_blanks-stands : (line_cap : ℕ) (h : History) (k : Kept) → StandsPlain line_cap h k → (g : Glyph)
    → begun_blanks k ≡ min (blanks (Print g ∷ h)) (2 ^ 33)
begun_blanks-stands line_cap h k s g =
    ap (λ n. begun n k.ends_sentence) s.blanks ∙ ap (begun (min (blanks h) (2 ^ 33))) s.ends_sentence
    ∙ begun-either (has_open_word h) (blanks h) _ (blanks-open h)

-- it stays within the word
pub begun_blanks-twice : (k : Kept) (ends : Bool) → begun (begun_blanks k) ends ≡ begun_blanks k
begun_blanks-twice k ends = begun-twice k.blanks k.ends_sentence ends

-- where no blanks are counted, no word is open
pub closed-none : (is_open : Bool) (n : ℕ) → (is_open ≡ true → 0 < n) → n ≡ 0 → is_open ≡ false
closed-none true n some none = absurd (omega (arith, some refl, none))
closed-none false n some none = refl

-- a gap where no glyph stands on the line, and no blanks are counted
pub StandsBehind-first_gap : (n : ℕ) (k : Kept) → n ≤ 2 ^ 33 → k.has_glyph ≡ false → k.is_open ≡ false → k.blanks ≡ 0
    → StandsPlainBehind k (Gap n) (record k { blanks = n })
StandsBehind-first_gap n k few bare o none line_cap h s =
    let closed : has_open_word h ≡ false = sym s.is_open ∙ o in
    let no_glyph : has_line_glyph h ≡ false = sym s.has_glyph ∙ bare in
    let nothing : blanks h ≡ 0 = omega (arith, s.blanks, none) in
    record {
      small = s.small;
      within = rw closed (rw closed at s.within);
      cap = s.cap;
      no_field = s.no_field;
      settings = s.settings;
      temporary_indent = s.temporary_indent;
      stops = s.stops;
      has_line = s.has_line;
      line = s.line;
      indent = s.indent;
      word = s.word;
      is_open = s.is_open;
      blanks = rw (closed, no_glyph, nothing) (omega (arith, few));
      has_glyph = s.has_glyph;
      ends_sentence = s.ends_sentence;
      place = rw no_glyph s.place;
      is_interrupted = s.is_interrupted;
      finished = s.finished ∙ sym (last_text-none h (Gap n) refl);
      last_width = s.last_width ∙ sym (last_width-none h (Gap n) refl);
    }
