-- A run of a text line, as far as it can be told at once.
use Rattle.std.proofs.Common.{◌≡◌, ℕ, zero, suc, ◌+◌, ◌-◌, ◌<◌, ◌≤◌, true, false, inl, inr, List, [], ◌∷◌, ◌++◌, length, take, drop, refl, sym, ap, subst, ◌∙◌, arith, ◌⊎◌, nat_lt, ltb-true, ltb-false, length-append, length-take, take-append-drop}
use Rattle.std.specs.List.{AllByRecursion}
use Rattle.std.proofs.Math.Seq.{take-append_seam, take-append-add}
use Rattle.std.proofs.lemmas.Bool.{cases_Bool}
use Rattle.page_model.specs.declared.event.Event.TheVariants.{WordEnd, Gap}
use Rattle.page_model.specs.Events.{History}
use Rattle.page_model.specs.Telling.{bytes_told}
use Rattle.roff_lines.specs.Env.Tells.{PlainlyTold, TellsPlain, TellsFront, EndsGlyphs, EndsBlanks}
use Rattle.page_model.specs.Lines.{pending_length}
use Rattle.roff_lines.specs.GlyphsInFront.{glyphs_in_front}
use Rattle.roff_lines.specs.Env.Kept.{Kept, glyph_room, with_glyphs, with_word_ended, word_finishes}
use Rattle.roff_lines.specs.Env.Stands.{StandsPlain, StandsPlainBehind}
use Rattle.roff_lines.proofs.GlyphsInFront.{front-glyph, front-blank}
use Rattle.roff_lines.proofs.WordEnd.{Stands-word_end, finished_by_word-stands}
use Rattle.roff_lines.proofs.Tells.{QuietlyTold-behind, AllByRecursion-behind}
use Rattle.roff_lines.proofs.ToldGlyphs.{within-full, bytes_told-glyph, glyph_room-glyphs, Tells-glyphs}

-- the glyphs in front of a text are above the blank
pub above-front : (most : ℕ) (text : List ℕ) → AllByRecursion (λ b. 32 < b) (take most (glyphs_in_front text))
above-front zero text = tt
above-front (suc n) [] = tt
above-front (suc n) (b ∷ text) =
    elim (cases_Bool (nat_lt 32 b)) [
      | inl e ↦ rw (front-glyph b text e) (ltb-true 32 b e, above-front n text)
      | inr e ↦ rw (front-blank b text e) tt
    ]

-- no glyph stands in front
abbrev pub BeginsBlank : List ℕ → Type 0
BeginsBlank [] = Unit {0}
BeginsBlank (b ∷ text) = b ≤ 32

-- lists with the same first byte have the same rest
rest_same : (b : ℕ) (xs ys : List ℕ) → b ∷ xs ≡ b ∷ ys → xs ≡ ys
rest_same b xs ys same = cc

-- behind so many glyphs in front, either so many are all that may be taken, or no glyph stands there
pub behind-front : (count most : ℕ) (text : List ℕ) → count ≤ length text → take count text ≡ take most (glyphs_in_front text)
    → (count ≡ most) ⊎ BeginsBlank (drop count text)
behind-front zero zero text within front = inl refl
behind-front zero (suc most) [] within front = inr tt
behind-front zero (suc most) (b ∷ text) within front =
    elim (cases_Bool (nat_lt 32 b)) [
      | inl e ↦ let one = front-glyph b text e in absurd (omega (arith, ap length (rw one at front)))
      | inr e ↦ inr (ltb-false 32 b e)
    ]
behind-front (suc count) most [] within front = absurd (omega arith)
behind-front (suc count) zero (b ∷ text) within front = absurd (omega (arith, ap length front))
behind-front (suc count) (suc most) (b ∷ text) within front =
    elim (cases_Bool (nat_lt 32 b)) [
      | inl e ↦
          let one = front-glyph b text e in
          let others = rest_same b (take count text) (take most (glyphs_in_front text)) (rw one at front) in
          elim (behind-front count most text (omega arith) others) [ inl same ↦ inl (ap suc same) | inr ends ↦ inr ends ]
      | inr e ↦ let none = front-blank b text e in absurd (omega (arith, ap length (rw none at front)))
    ]

-- where there is no room, or no glyph, no glyph in front is let through
ends_glyphs : (rest : List ℕ) (k : Kept) → (glyph_room k ≡ 0) ⊎ BeginsBlank rest → EndsGlyphs rest k
ends_glyphs [] k ends = tt
ends_glyphs (b ∷ rest) k (inl full) = λ above. full
ends_glyphs (b ∷ rest) k (inr blank) = λ above. absurd (omega arith)

-- where none was counted, none is let through
pub EndsGlyphs-none : (room : ℕ) (text : List ℕ) (k : Kept) → take 0 text ≡ take room (glyphs_in_front text) → room ≡ glyph_room k → EndsGlyphs text k
EndsGlyphs-none room text k taken all =
    ends_glyphs text k (elim (behind-front 0 room text (omega arith) taken) [ inl same ↦ inl (omega (arith, same, all)) | inr ends ↦ inr ends ])

module _ (bytes front rest : List ℕ) (k : Kept) (count room : ℕ) (some : 0 < count) (within : count ≤ length bytes)
    (taken : take count bytes ≡ take room (glyphs_in_front bytes)) (all : room ≡ glyph_room k)
    (is_front : front ≡ take count bytes) (is_rest : rest ≡ drop count bytes) where
  -- so many stand in front
  length-front : length front ≡ count
  length-front = omega (arith, ap length is_front, length-take count bytes)

  -- there is room for them
  room-front : length front ≤ glyph_room k
  room-front = omega (arith, ap length (is_front ∙ taken), length-take room (glyphs_in_front bytes), all)

  -- they are above the blank
  pub above-counted : AllByRecursion (λ b. 32 < b) front
  above-counted = subst (AllByRecursion (λ b. 32 < b)) (sym (is_front ∙ taken)) (above-front room bytes)

  module _ (new : Kept) (told : new ≡ with_glyphs front k) where
    -- the glyphs that were counted are told
    pub TellsFront-glyphs : TellsFront bytes rest k new
    TellsFront-glyphs = record {
      front = front;
      joined = rw (is_front, is_rest) (take-append-drop count bytes);
      told = subst (TellsPlain front k) (sym told) (Tells-glyphs front (omega (arith, length-front)) above-counted k room-front);
    }

    -- behind them none is let through
    pub EndsGlyphs-glyphs : EndsGlyphs rest new
    EndsGlyphs-glyphs =
        let after = with_glyphs front k in
        subst (EndsGlyphs rest) (sym told)
        (ends_glyphs rest after (elim (behind-front count room bytes within taken) [
          | inl same ↦ inl (omega (arith, glyph_room-glyphs front k, length-front, same, all))
          | inr ends ↦ inr (subst BeginsBlank (sym is_rest) ends)
        ]))

-- a blank is told where it finishes no line
pub Tells-blank : (old mid new : Kept) → word_finishes old ≡ false → mid ≡ with_word_ended old → StandsPlainBehind mid (Gap 1) new
    → new.field ≡ old.field → TellsPlain (32 ∷ []) old new
Tells-blank old mid new none ended gap same = record {
  quiet = λ line_cap h s.
      let told = gap line_cap (WordEnd ∷ h) (subst (StandsPlain line_cap (WordEnd ∷ h)) (sym ended) (Stands-word_end line_cap h old s)) in
      (sym (finished_by_word-stands line_cap h old s) ∙ rw none refl, told.within, tt);
  stands = λ line_cap h s. gap line_cap (WordEnd ∷ h) (subst (StandsPlain line_cap (WordEnd ∷ h)) (sym ended) (Stands-word_end line_cap h old s));
  field = same;
}

-- a blank in front is told
pub TellsFront-blank : (bytes behind : List ℕ) (old new : Kept) → 32 ∷ behind ≡ bytes → TellsPlain (32 ∷ []) old new → TellsFront bytes behind old new
TellsFront-blank bytes behind old new joined told = record { front = 32 ∷ []; joined = joined; told = told }

-- what is told to an environment stays told where that stays
pub TellsFront-same : (bytes rest : List ℕ) (old new same : Kept) → TellsFront bytes rest old new → same ≡ new → TellsFront bytes rest old same
TellsFront-same bytes rest old new same told unchanged = subst (TellsFront bytes rest old) (sym unchanged) told

-- a byte that ends what can be told can't be told
module _ (line_cap : ℕ) (h : History) (k : Kept) (s : StandsPlain line_cap h k) where
  -- a glyph is beyond the limit
  glyph_stops : (b : ℕ) → 32 < b → glyph_room k ≡ 0 → PlainlyTold line_cap (b ∷ []) h → ⊥
  glyph_stops b above full quiet =
      within-full line_cap h k s b above full
      (subst (λ told. pending_length told ≤ line_cap) (bytes_told-glyph b h above) quiet.1)

  -- a blank finishes a line
  blank_stops : word_finishes k ≡ true → PlainlyTold line_cap (32 ∷ []) h → ⊥
  blank_stops finishes quiet =
      let some = finished_by_word-stands line_cap h k s ∙ quiet.0 in
      let none = rw finishes at some in cc

  -- the byte in front is one of the two
  byte_stops : (b : ℕ) (rest : List ℕ) → 31 < b → EndsGlyphs (b ∷ rest) k → EndsBlanks (b ∷ rest) k → PlainlyTold line_cap (b ∷ []) h → ⊥
  byte_stops b rest printed glyphs blanks quiet =
      elim (cases_Bool (nat_lt 32 b)) [
        | inl e ↦ let above = ltb-true 32 b e in glyph_stops b above (glyphs above) quiet
        | inr e ↦
            let below = ltb-false 32 b e in
            let blank : b ≡ 32 = omega arith in
            blank_stops (blanks blank) (subst (λ c. PlainlyTold line_cap (c ∷ []) h) blank quiet)
      ]

module _ (bytes rest : List ℕ) (old new : Kept) (t : TellsFront bytes rest old new) where
  -- as many as were told
  count-told : length bytes - length rest ≡ length t.front
  count-told = omega (arith, length-append t.front rest, ap length t.joined)

  -- they are what was told
  take-told : take (length bytes - length rest) bytes ≡ t.front
  take-told = rw count-told (ap (take (length t.front)) (sym t.joined) ∙ take-append_seam t.front rest)

  -- so they can be told
  pub QuietlyTold-told : (line_cap : ℕ) (h : History) → StandsPlain line_cap h old → PlainlyTold line_cap (take (length bytes - length rest) bytes) h
  QuietlyTold-told line_cap h s = subst (λ xs. PlainlyTold line_cap xs h) (sym take-told) (t.told.quiet line_cap h s)

  -- and the environment stands for the history with them
  pub Stands-told : (line_cap : ℕ) (h : History) → StandsPlain line_cap h old
      → StandsPlain line_cap (bytes_told (take (length bytes - length rest) bytes) h) new
  Stands-told line_cap h s = subst (λ xs. StandsPlain line_cap (bytes_told xs h) new) (sym take-told) (t.told.stands line_cap h s)

-- one byte more can't be told, whatever is left
most_by : (line_cap : ℕ) (h : History) (front rest : List ℕ) (k : Kept) → StandsPlain line_cap (bytes_told front h) k
    → AllByRecursion (λ b. 31 < b) rest → EndsGlyphs rest k → EndsBlanks rest k → 0 < length rest
    → PlainlyTold line_cap (take (length front + 1) (front ++ rest)) h → ⊥
most_by line_cap h front [] k s printed glyphs blanks some quiet = absurd (omega arith)
most_by line_cap h front (b ∷ rest) k s printed glyphs blanks some quiet =
    let one : take (length front + 1) (front ++ b ∷ rest) ≡ front ++ b ∷ [] = take-append-add front (b ∷ rest) 1 in
    byte_stops line_cap (bytes_told front h) k s b rest printed.0 glyphs blanks
    (QuietlyTold-behind line_cap front (b ∷ []) h (subst (λ xs. PlainlyTold line_cap xs h) one quiet))

-- so no more than were told can be
pub most_told : (bytes rest : List ℕ) (old new : Kept) (t : TellsFront bytes rest old new) → AllByRecursion (λ b. 31 < b) bytes
    → EndsGlyphs rest new → EndsBlanks rest new → (line_cap : ℕ) (h : History) → StandsPlain line_cap h old
    → length bytes - length rest < length bytes → PlainlyTold line_cap (take (length bytes - length rest + 1) bytes) h → ⊥
most_told bytes rest old new t printed glyphs blanks line_cap h s more quiet =
    let left : AllByRecursion (λ b. 31 < b) (t.front ++ rest) = subst (AllByRecursion (λ b. 31 < b)) (sym t.joined) printed in
    let here : PlainlyTold line_cap (take (length t.front + 1) bytes) h =
    subst (λ n. PlainlyTold line_cap (take (n + 1) bytes) h) (count-told bytes rest old new t) quiet in
    most_by line_cap h t.front rest new (t.told.stands line_cap h s)
    (AllByRecursion-behind (λ b. 31 < b) t.front rest left) glyphs blanks (omega arith)
    (subst (λ xs. PlainlyTold line_cap (take (length t.front + 1) xs) h) (sym t.joined) here)
