-- Where cells end each behind the one in front, those that are cut for the first time are counted one by one.
use Rattle.std.proofs.Common.{◌≡◌, ℕ, zero, suc, ◌+◌, ◌<◌, ◌≤◌, Bool, true, false, not, ◌&&◌, ◌||◌, List, [], ◌∷◌, ap, ◌∙◌, refl, arith, if◌then◌else◌, ◌==◌, eqb-true, ne_eqb}
use Rattle.std.specs.List.{AllByRecursion}
use Rattle.std.proofs.lemmas.Bool.{eqb-false}
use Rattle.tbl_lines.specs.CellsLeft.{Left}
use Rattle.tbl_lines.specs.CutEntries.{first_cut, first_from, is_first}
use Rattle.tbl_lines.proofs.CellTexts.{once, once-past}

abbrev pub RiseFrom : ℕ → List Left → Type 0
RiseFrom from [] = Unit {0}
RiseFrom from (c ∷ cells) = (from < c.key.end) × RiseFrom c.key.end cells

-- those of which nothing was cut before
abbrev pub fresh : List Left → ℕ
fresh [] = 0
fresh (c ∷ cut) = (if not c.is_cut then 1 else 0) + fresh cut

later-none : (end from : ℕ) (cut : List Left) → RiseFrom from cut → end ≤ from → is_first cut end ≡ false
later-none end from [] rise behind = refl
later-none end from (c ∷ cut) rise behind =
    ap (λ (t : Bool). (t && not c.is_cut) || is_first cut end) (ne_eqb c.key.end end (λ is. omega (arith, is, behind, rise.0)))
    ∙ later-none end c.key.end cut rise.1 (omega (arith, behind, rise.0))

split-at : (there new further : Bool) → (there ≡ true → further ≡ false)
    → (if (there && new) || further then 1 else 0) ≡ (if there && new then 1 else 0) + (if further then 1 else 0)
split-at true true true only = absurd (let is = only refl in cc)
split-at true true false only = omega arith
split-at true false further only = omega arith
split-at false new further only = omega arith

first-split : (c : Left) (cut : List Left) (end columns : ℕ) → RiseFrom c.key.end cut
    → first_from (c ∷ cut) end columns ≡ once c.key.end (not c.is_cut) end columns + first_from cut end columns
first-split c cut end zero rise = omega arith
first-split c cut end (suc columns) rise =
    omega (
      arith,
      split-at (c.key.end == end) (not c.is_cut) (is_first cut end)
          (λ is. later-none end c.key.end cut rise (let same : c.key.end ≡ end = eqb-true c.key.end end is in omega (arith, same))),
      first-split c cut (suc end) columns rise,
    )

once-there : (at : ℕ) (text : Bool) (end columns : ℕ) → end ≤ at → at < end + columns → once at text end columns ≡ (if text then 1 else 0)
once-there at text end zero from within = absurd (omega (arith, from, within))
once-there at text end (suc columns) from within =
    there-by (at == end) refl (λ other. once-there at text (suc end) columns other (omega (arith, within))) where
      there-by : (there : Bool) → (at == end) ≡ there → (suc end ≤ at → once at text (suc end) columns ≡ (if text then 1 else 0))
          → (if there && text then 1 else 0) + once at text (suc end) columns ≡ (if text then 1 else 0)
      there-by true is further =
          let same : at ≡ end = eqb-true at end is in omega (arith, once-past at text (suc end) columns (omega (arith, same)))
      there-by false is further = let other : suc end ≤ at = omega (arith, from, eqb-false at end is) in omega (arith, further other)

none-first : (end columns : ℕ) → first_from [] end columns ≡ 0
none-first end zero = refl
none-first end (suc columns) = omega (arith, none-first (suc end) columns)

pub first-each : (columns from : ℕ) (cut : List Left) → RiseFrom from cut → AllByRecursion (λ c. c.key.end ≤ columns) cut
    → first_cut columns cut ≡ fresh cut
first-each columns from [] rise within = none-first 1 columns
first-each columns from (c ∷ cut) rise within =
    omega (
      arith,
      first-split c cut 1 columns rise.1,
      once-there c.key.end (not c.is_cut) 1 columns (omega (arith, rise.0)) (omega (arith, within.0)),
      first-each columns c.key.end cut rise.1 within.1,
    )
