-- The bars behind the last column.
use Rattle.std.proofs.Common.{◌≡◌, ℕ, ◌-◌, List, [], ◌∷◌, length, Option, Some, None, refl, ap, ◌∙◌, arith, slice_get}
use Rattle.tbl_format.specs.declared.format.Asked.{Asked}
use Rattle.tbl_layout.specs.Widths.{last_bars}

-- the bars of what may be there
abbrev bars_of : Option Asked → ℕ
bars_of None = 0
bars_of (Some a) = a.bars

last_bars-cons : (a : Asked) (asked : List Asked) → bars_of (slice_get (a ∷ asked) (length asked)) ≡ last_bars (a ∷ asked)
last_bars-cons a [] = refl
last_bars-cons a (b ∷ asked) = last_bars-cons b asked

last_bars-is : (asked : List Asked) → bars_of (slice_get asked (length asked - 1)) ≡ last_bars asked
last_bars-is [] = refl
last_bars-is (a ∷ asked) =
    let before : length (a ∷ asked) - 1 ≡ length asked = omega arith in
    ap (λ (at : ℕ). bars_of (slice_get (a ∷ asked) at)) before ∙ last_bars-cons a asked

-- those of the last column
pub last_bars-slice_get : (asked : List Asked) (a : Asked) → Some a ≡ slice_get asked (length asked - 1) → a.bars ≡ last_bars asked
last_bars-slice_get asked a is = ap bars_of is ∙ last_bars-is asked
