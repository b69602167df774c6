-- Parts of a list, by where each ends.
use Rattle.std.proofs.Common.{◌≡◌, ℕ, ◌-◌, List, [], ◌∷◌, ◌++◌, length, refl, sym, ap, ◌∙◌, arith, slice_get, Some}
use Rattle.roff_num.specs.Lists.{last_end}

-- the last of them, behind the others
pub last_end-append : (from end : ℕ) (ends : List ℕ) → last_end from (ends ++ end ∷ []) ≡ end
last_end-append from end [] = refl
last_end-append from end (e ∷ ends) = last_end-append e end ends

-- the last end is the last of the list
slice_get-last : (from end : ℕ) (ends : List ℕ) → slice_get (end ∷ ends) (length ends) ≡ Some (last_end from (end ∷ ends))
slice_get-last from end [] = refl
slice_get-last from end (e ∷ ends) = slice_get-last end e ends

pub last_end-slice_get : (ends : List ℕ) (last : ℕ) → slice_get ends (length ends - 1) ≡ Some last → last ≡ last_end 0 ends
last_end-slice_get [] last is = absurd (cc)
last_end-slice_get (end ∷ ends) last is =
    let before : length (end ∷ ends) - 1 ≡ length ends = omega arith in
    let same : Some last ≡ Some (last_end 0 (end ∷ ends)) =
    sym is ∙ ap (λ at. slice_get (end ∷ ends) at) before ∙ slice_get-last 0 end ends in
    cc
