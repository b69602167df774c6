-- The columns of a row's cells, as they are read from its last key.
use Rattle.std.proofs.Common.{◌≡◌, ℕ, ◌-◌, Some, List, [], ◌∷◌, length, refl, sym, ap, ◌∙◌, arith, slice_get}
use Rattle.tbl_format.specs.Format.{columns_of_keys}
use Rattle.tbl_format.specs.declared.format.FormatKey.{FormatKey}

-- the last of some keys
abbrev last_of : FormatKey → List FormatKey → FormatKey
last_of k [] = k
last_of k (next ∷ keys) = last_of next keys

got-last : (k : FormatKey) (keys : List FormatKey) → slice_get (k ∷ keys) (length keys) ≡ Some (last_of k keys)
got-last k [] = refl
got-last k (next ∷ keys) = got-last next keys

columns_of-last : (k : FormatKey) (keys : List FormatKey) → columns_of_keys (k ∷ keys) ≡ (last_of k keys).end
columns_of-last k [] = refl
columns_of-last k (next ∷ keys) = columns_of-last next keys

pub columns_of-got : (keys : List FormatKey) (last : FormatKey) → slice_get keys (length keys - 1) ≡ Some last → last.end ≡ columns_of_keys keys
columns_of-got [] last is = absurd cc
columns_of-got (k ∷ keys) last is =
    let before : length (k ∷ keys) - 1 ≡ length keys = omega arith in
    let both : Some last ≡ Some (last_of k keys) = sym is ∙ ap (λ (at : ℕ). slice_get (k ∷ keys) at) before ∙ got-last k keys in
    let same : last ≡ last_of k keys = cc in
    ap (λ (q : FormatKey). q.end) same ∙ sym (columns_of-last k keys)
