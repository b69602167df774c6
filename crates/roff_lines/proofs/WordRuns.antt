-- Words with one blank between two of them.
use Rattle.std.proofs.Common.{◌≡◌, ℕ, zero, suc, ◌+◌, ◌-◌, ◌<◌, ◌≤◌, inl, inr, List, [], ◌∷◌, length, take, cond, slice_index_or, false, refl, sym, ap, subst, ◌∙◌, arith, ◌⊎◌, ◌==◌}
use Rattle.std.proofs.lemmas.Bool.Decides.{nat_tests}
use Rattle.std.proofs.lemmas.List.{take_more}
use Rattle.std.proofs.lemmas.List.Sums.{sum_by-append}
use Rattle.page_model.specs.Glyphs.{gap_blank, gaps_in}
use Rattle.roff_lines.specs.Env.Tells.{GoesOn, IsRun, Nothing, Begins, Further, NoWord, WholeWords}
use Rattle.roff_lines.proofs.Widths.{gaps_in-cons}
use Rattle.roff_lines.proofs.WholeWords.{Counts, Counts-blank, Counts-character}

-- a byte that isn't below the blank is one, or is above it
pub blank_or_above : (b d : ℕ) → b ≡ 32 + d → (b ≡ 32) ⊎ (32 < b)
blank_or_above b zero sum = inl (omega (arith, sum))
blank_or_above b (suc d) sum = inr (omega (arith, sum))

module _ (bytes : List ℕ) where
  -- one byte less
  pub IsRun-less : (k : ℕ) → IsRun bytes k → IsRun bytes (k - 1)
  IsRun-less _ Nothing = Nothing
  IsRun-less _ (Begins first) = Nothing
  IsRun-less _ (Further k some run goes) =
      let less : k ≡ k + 1 - 1 = omega arith in
      subst (IsRun bytes) less run

  -- some bytes less
  pub IsRun-front : (k d : ℕ) → IsRun bytes (k + d) → IsRun bytes k
  IsRun-front k zero run = let same : k + 0 ≡ k = omega arith in subst (IsRun bytes) same run
  IsRun-front k (suc d) run =
      let less : k + suc d - 1 ≡ k + d = omega arith in
      IsRun-front k d (subst (IsRun bytes) less (IsRun-less (k + suc d) run))

  -- one byte more of a step
  pub IsRun-more : (start place : ℕ) → 0 < start → IsRun bytes (start + place)
      → GoesOn (slice_index_or bytes (start + place - 1) 0) (slice_index_or bytes (start + place) 0) → IsRun bytes (start + (place + 1))
  IsRun-more start place some run goes =
      let more : start + place + 1 ≡ start + (place + 1) = omega arith in
      subst (IsRun bytes) more (Further (start + place) (omega (arith, some)) run goes)

  -- the gaps with a byte more
  pub gaps_in-take_more : (k : ℕ) → k < length bytes → gaps_in (take (k + 1) bytes) ≡ gaps_in (take k bytes) + cond (slice_index_or bytes k 0 == 32) 1 0
  gaps_in-take_more k within =
      let b : ℕ = slice_index_or bytes k 0 in
      let front : List ℕ = take k bytes in
      let one : gaps_in (b ∷ []) ≡ cond (b == 32) 1 0 + gaps_in [] = gaps_in-cons b [] in
      ap gaps_in (take_more bytes k 0 within) ∙ omega (arith, sum_by-append (λ x. cond (x == gap_blank) 1 0) front (b ∷ []), one)

  -- a blank more is one gap more
  pub gaps_in-blank : (k : ℕ) → k < length bytes → slice_index_or bytes k 0 ≡ 32 → gaps_in (take (k + 1) bytes) ≡ gaps_in (take k bytes) + 1
  gaps_in-blank k within blank = gaps_in-take_more k within ∙ ap (λ b. gaps_in (take k bytes) + cond (b == 32) 1 0) blank

  -- what is no blank is no gap
  pub gaps_in-no : (k : ℕ) → k < length bytes → (slice_index_or bytes k 0 ≡ 32 → ⊥) → gaps_in (take (k + 1) bytes) ≡ gaps_in (take k bytes)
  gaps_in-no k within other =
      let no_blank : (slice_index_or bytes k 0 == 32) ≡ false = grind (arith, nat_tests) in
      omega (arith, gaps_in-take_more k within, ap {B = ℕ} (λ v. cond v 1 0) no_blank)

  -- the first byte is no gap
  pub gaps_in-first : 0 < length bytes → GoesOn 32 (slice_index_or bytes 0 0) → gaps_in (take 1 bytes) ≡ 0
  gaps_in-first some first = gaps_in-no 0 some (λ blank. first.single blank refl)

  -- so many bytes in front are whole words, and a word of which a part was read
  record Reads (k : ℕ) : Type 0 where
    pub told : ℕ
    pub words : ℕ
    pub counts : Counts bytes told words k
    pub within : told ≤ k
    pub opened : 0 < k → (slice_index_or bytes (k - 1) 0 ≡ 32 → ⊥) → told < k
    pub gaps : words ≡ gaps_in (take k bytes)

  -- with a character more
  Reads-character : (k : ℕ) → k < length bytes → Reads k → 32 < slice_index_or bytes k 0 → slice_index_or bytes k 0 < 128 → Reads (k + 1)
  Reads-character k within r above below = record {
    told = r.told;
    words = r.words;
    counts = Counts-character bytes r.told r.words k r.counts within above below;
    within = omega (arith, r.within);
    opened = λ some other. omega (arith, r.within);
    gaps = r.gaps ∙ sym (gaps_in-no k within (λ blank. omega (arith, blank, above)));
  }

  -- a blank ends a word
  ended : (k : ℕ) → k < length bytes → 0 < k → (r : Reads k) → GoesOn (slice_index_or bytes (k - 1) 0) (slice_index_or bytes k 0)
      → slice_index_or bytes k 0 ≡ 32 → Counts bytes (k + 1) (r.words + 1) (k + 1)
  ended k within some r goes blank =
      let more : r.told < k = r.opened some (goes.single blank) in
      Counts-blank bytes r.told r.words k r.counts within r.within blank (λ same. omega (arith, same, more))

  -- with a blank more
  Reads-blank : (k : ℕ) → k < length bytes → 0 < k → Reads k → GoesOn (slice_index_or bytes (k - 1) 0) (slice_index_or bytes k 0)
      → slice_index_or bytes k 0 ≡ 32 → Reads (k + 1)
  Reads-blank k within some r goes blank = record {
    told = k + 1;
    words = r.words + 1;
    counts = ended k within some r goes blank;
    within = omega arith;
    opened = λ more other. absurd (other (ap (λ n. slice_index_or bytes n 0) (omega arith) ∙ blank));
    gaps = omega (arith, r.gaps, gaps_in-blank k within blank);
  }

  -- nothing was read
  Reads-nothing : Reads 0
  Reads-nothing = record {
    told = 0;
    words = 0;
    counts = record { front = NoWord; word = []; split = refl; characters = tt };
    within = omega arith;
    opened = λ some other. absurd (omega (arith, some));
    gaps = refl;
  }

  -- what a run reads
  Reads-run : (k : ℕ) → IsRun bytes k → k ≤ length bytes → Reads k
  Reads-run _ Nothing within = Reads-nothing
  Reads-run _ (Begins first) within =
      let b : ℕ = slice_index_or bytes 0 0 in
      let sum : b ≡ 32 + (b - 32) = omega (arith, first.above) in
      elim (blank_or_above b (b - 32) sum) [
        | inl blank ↦ absurd (first.single blank refl)
        | inr above ↦ Reads-character 0 (omega (arith, within)) Reads-nothing above first.below
      ]
  Reads-run _ (Further k some run goes) within =
      let b : ℕ = slice_index_or bytes k 0 in
      let sum : b ≡ 32 + (b - 32) = omega (arith, goes.above) in
      let less : k < length bytes = omega (arith, within) in
      let front = Reads-run k run (omega (arith, within)) in
      elim (blank_or_above b (b - 32) sum) [
        | inl blank ↦ Reads-blank k less some front goes blank
        | inr above ↦ Reads-character k less front above goes.below
      ]

  -- a run up to a blank is whole words
  pub WholeWords-run : (k words : ℕ) → IsRun bytes k → k ≤ length bytes → (0 < k → slice_index_or bytes (k - 1) 0 ≡ 32) → gaps_in (take k bytes) ≡ words
      → WholeWords words (take k bytes)
  WholeWords-run _ words Nothing within blank gaps = subst (λ n. WholeWords n []) gaps NoWord
  WholeWords-run _ words (Begins first) within blank gaps = absurd (first.single (blank (omega arith)) refl)
  WholeWords-run _ words (Further k some run goes) within blank gaps =
      let here : slice_index_or bytes k 0 ≡ 32 = ap (λ n. slice_index_or bytes n 0) (omega arith) ∙ blank (omega arith) in
      let less : k < length bytes = omega (arith, within) in
      let r = Reads-run k run (omega (arith, within)) in
      let counted : r.words + 1 ≡ words = omega (arith, r.gaps, gaps_in-blank k less here, gaps) in
      subst (λ n. WholeWords n (take (k + 1) bytes)) counted (ended k less some r goes here).front
