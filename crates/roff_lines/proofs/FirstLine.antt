-- The first line that some words fill.
use Rattle.std.proofs.Common.{◌≡◌, ℕ, ◌+◌, ◌-◌, ◌<◌, ◌^◌, min, List, [], ◌∷◌, ◌++◌, length, Option, Some, None, refl, sym, ap, subst, ◌∙◌, arith, append-nil}
use Rattle.std.specs.Iterator.{Yields}
use Rattle.roff_lines.specs.FirstLine.{MeasuredWord, width_with, count_joining, first_line_count}

-- Words that were taken for the first line: it has this width, whatever follows joins it by that, and so many of them were
-- counted.
pub record Filled (measure : ℕ) (taken : List MeasuredWord) (line : Option ℕ) (count : ℕ) : Type 0 where
  pub joins : (ws : List MeasuredWord) → first_line_count measure (taken ++ ws) ≡ length taken + count_joining measure line ws
  pub counted : count ≡ min (length taken) (2 ^ 64 - 1)

-- how many join behind a word of which it is known whether it fits
abbrev pub joining_by : ℕ → List MeasuredWord → Option ℕ → ℕ
joining_by measure ws fit = elim fit [ None ↦ 0 | Some width ↦ 1 + count_joining measure (Some width) ws ]

module _ (measure : ℕ) (taken : List MeasuredWord) (line : Option ℕ) (count : ℕ) (f : Filled measure taken line count) where
  -- a word that doesn't fit is not counted
  pub first_line_count-cut : (w : MeasuredWord) → width_with measure line w ≡ None
      → first_line_count measure (taken ++ w ∷ []) ≡ length taken
  first_line_count-cut w cut = f.joins (w ∷ []) ∙ ap (λ o. length taken + joining_by measure [] o) cut ∙ omega arith

  -- where none follows, all are counted
  pub first_line_count-all : first_line_count measure taken ≡ length taken
  first_line_count-all = ap (first_line_count measure) (sym (append-nil taken)) ∙ f.joins [] ∙ omega arith

-- where not all words are counted, others behind them aren't either
count_by_fit : (measure : ℕ) (words more : List MeasuredWord) (fit : Option ℕ)
    → ((line : Option ℕ) → count_joining measure line words < length words
    → count_joining measure line (words ++ more) ≡ count_joining measure line words)
    → joining_by measure words fit < 1 + length words → joining_by measure (words ++ more) fit ≡ joining_by measure words fit
count_by_fit measure words more None before cut = refl
count_by_fit measure words more (Some width) before cut = ap (λ n. 1 + n) (before (Some width) (omega (arith, cut)))

count_joining-front : (measure : ℕ) (words more : List MeasuredWord) (line : Option ℕ)
    → count_joining measure line words < length words
    → count_joining measure line (words ++ more) ≡ count_joining measure line words
count_joining-front measure [] more line cut = absurd (omega (arith, cut))
count_joining-front measure (w ∷ words) more line cut =
    count_by_fit measure words more (width_with measure line w) (count_joining-front measure words more) (omega (arith, cut))

pub first_line_count-front : (measure : ℕ) (words more : List MeasuredWord) → first_line_count measure words < length words
    → first_line_count measure (words ++ more) ≡ first_line_count measure words
first_line_count-front measure words more cut = count_joining-front measure words more None cut

-- calls that gave some items, and then one more
pub Yields-more : {S A : Type 0} (steps : S → Option A → S → Type 0) (s t u : S) (xs : List A) (x : A)
    → Yields steps s xs t → steps t (Some x) u → Yields steps s (xs ++ x ∷ []) u
Yields-more steps s t u [] x gave step = (u, subst (λ q. steps q (Some x) u) (sym gave) step, refl)
Yields-more steps s t u (y ∷ xs) x gave step = (gave.0, gave.1, Yields-more steps gave.0 t u xs x gave.2 step)
