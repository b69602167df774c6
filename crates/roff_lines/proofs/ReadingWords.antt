-- Words that are read on, by a step or by a byte.
use Rattle.std.proofs.Common.{◌≡◌, ℕ, ◌+◌, ◌-◌, ◌<◌, ◌≤◌, Bool, true, false, List, length, take, slice_index_or, nat_lt, refl, sym, ap, subst, ◌∙◌, arith, if◌then◌else◌, ltb-true, ltb-false}
use Rattle.page_model.specs.Glyphs.{gaps_in}
use Rattle.roff_lines.specs.Env.Tells.{Begins, Further, GoesOn, IsRun, ReadsWords, WholeWords}
use Rattle.roff_lines.proofs.WordRuns.{IsRun-front, WholeWords-run, gaps_in-blank, gaps_in-first, gaps_in-no}

-- the first byte is read
pub ReadsWords-first : (bytes : List ℕ) → 0 < length bytes → GoesOn 32 (slice_index_or bytes 0 0) → ReadsWords bytes 1 0 0
ReadsWords-first bytes some first = record {
  some = omega arith;
  within = omega arith;
  run = Begins first;
  blank = λ none. absurd (omega (arith, none));
  others = sym (gaps_in-first bytes some first);
  gaps = gaps_in-first bytes some first;
  less = omega arith;
}

module _ (bytes : List ℕ) (read told words : ℕ) (r : ReadsWords bytes read told words) where
  -- a step more, up to this place whole words where it is behind them
  module _ (run place gaps : ℕ) (goes : IsRun bytes (read + run)) (from : read ≤ place) (few : place ≤ read + run)
      (blank : read < place → slice_index_or bytes (place - 1) 0 ≡ 32) (others : gaps_in (take place bytes) ≡ gaps_in (take (read + run) bytes))
      (more : gaps_in (take (read + run) bytes) ≡ gaps_in (take read bytes) + gaps) (less : gaps ≤ run) where
    read_by : (v : Bool) → nat_lt read place ≡ v → ReadsWords bytes (read + run) (if v then place else told) (words + gaps)
    read_by true is = record {
      some = omega (arith, r.some);
      within = few;
      run = goes;
      blank = λ some. blank (ltb-true read place is);
      others = others;
      gaps = omega (arith, more, r.gaps);
      less = omega (arith, less, r.less);
    }
    read_by false is =
        let same : read ≡ place = omega (arith, from, ltb-false read place is) in record {
          some = omega (arith, r.some);
          within = omega (arith, r.within);
          run = goes;
          blank = r.blank;
          others = r.others ∙ ap (λ n. gaps_in (take n bytes)) same ∙ others;
          gaps = omega (arith, more, r.gaps);
          less = omega (arith, less, r.less);
        }

    pub ReadsWords-step : ReadsWords bytes (read + run) (if nat_lt read place then place else told) (words + gaps)
    ReadsWords-step = read_by (nat_lt read place) refl

  module _ (within : read < length bytes) (goes : GoesOn (slice_index_or bytes (read - 1) 0) (slice_index_or bytes read 0)) where
    -- a blank more
    pub ReadsWords-blank : slice_index_or bytes read 0 ≡ 32 → ReadsWords bytes (read + 1) (read + 1) (words + 1)
    ReadsWords-blank blank =
        let last : read + 1 - 1 ≡ read = omega arith in record {
          some = omega arith;
          within = omega arith;
          run = Further read r.some r.run goes;
          blank = λ some. ap (λ n. slice_index_or bytes n 0) last ∙ blank;
          others = refl;
          gaps = omega (arith, gaps_in-blank bytes read within blank, r.gaps);
          less = omega (arith, r.less);
        }

    -- a character more
    pub ReadsWords-character : (slice_index_or bytes read 0 ≡ 32 → ⊥) → ReadsWords bytes (read + 1) told words
    ReadsWords-character other =
        let same = gaps_in-no bytes read within other in record {
          some = omega arith;
          within = omega (arith, r.within);
          run = Further read r.some r.run goes;
          blank = r.blank;
          others = r.others ∙ sym same;
          gaps = same ∙ r.gaps;
          less = omega (arith, r.less);
        }

  -- what was told of them are whole words
  pub WholeWords-read : read ≤ length bytes → WholeWords words (take told bytes)
  WholeWords-read few =
      let whole : read ≡ told + (read - told) = omega (arith, r.within) in
      WholeWords-run bytes told words (IsRun-front bytes told (read - told) (subst (IsRun bytes) whole r.run)) (omega (arith, r.within, few)) r.blank
      (r.others ∙ r.gaps)
