-- The page length that a text sets.
use Rattle.std.proofs.Common.{◌≡◌, ℕ, ℤ, pos, List, [], ◌∷◌, Some, Result, Ok, slice_get, ap, ◌∙◌, ◌/◌}
use Rattle.roff_num.specs.Steps.{followed}
use Rattle.roff_num.specs.declared.num.NumFault.{NumFault}
use Rattle.run_model.specs.Numbers.{at_least_zero, height_beside, rounded_in_range}
use Rattle.run_model.specs.Registers.{Known, in_heights, place_down}
use Rattle.run_model.specs.Requests.Paging.{lines_set, page_length, page_of}

-- the whole lines of a height
abbrev pub lines_of : ℤ → Result ℕ NumFault
lines_of height = followed (rounded_in_range 40 height) (λ r. Ok (at_least_zero r / 40))

-- and of one that may be out of range
abbrev lines_at : Result ℤ NumFault → Result ℕ NumFault
lines_at height = followed height lines_of

-- the lines that a text sets, from the place and the length in force
pub lines_set-known : (k : Known) (text : List ℕ) (place units : ℤ) (height : ℤ) (lines : ℕ) → place ≡ place_down k → units ≡ pos (in_heights k.layout.length)
    → Ok height ≡ height_beside place units text → Ok lines ≡ lines_of height → Ok lines ≡ lines_set k text
lines_set-known k text place units height lines is_place is_units given rounded =
    rounded
    ∙ ap lines_at given
    ∙ ap (λ (place : ℤ). lines_at (height_beside place units text)) is_place
    ∙ ap (λ (units : ℤ). lines_at (height_beside (place_down k) units text)) is_units

-- the first argument sets them
pub page_length-given : (k : Known) (as_given : List (List ℕ)) (text : List ℕ) (lines : Result ℕ NumFault) → Some text ≡ slice_get as_given 0
    → lines ≡ lines_set k text → page_of lines ≡ page_length k as_given
page_length-given k [] text lines given is = cc
page_length-given k (first ∷ others) text lines given is =
    let same : text ≡ first = cc in
    ap page_of is ∙ ap (λ (t : List ℕ). page_of (lines_set k t)) same
