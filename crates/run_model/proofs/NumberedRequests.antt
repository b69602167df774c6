-- The request of a place in the table, by the lists that the table is made of.
use Rattle.std.proofs.Common.{◌≡◌, ◌<◌, ◌≤◌, ◌-◌, ℕ, zero, suc, List, [], ◌∷◌, ◌++◌, length, get_or, map, Some, None, refl, ap, ◌∙◌, arith, option_map, slice_get}
use Rattle.std.proofs.lemmas.Option.{slice_get-get_or, slice_get-map, slice_get_past}
use Rattle.run_model.specs.Requests.{built, names_left_out, names_without_effect, others, requests}
use Rattle.run_model.specs.declared.request.Request.{Request}
use Rattle.run_model.specs.declared.request.Request.TheVariants.{Break, LeftOut, WithoutEffect}

module _ {A : Type 0} where
  -- in front of others, and behind them
  slice_get-front : (xs ys : List A) (n : ℕ) → n < length xs → slice_get (xs ++ ys) n ≡ slice_get xs n
  slice_get-front [] ys n less = absurd (omega (arith, less))
  slice_get-front (x ∷ xs) ys zero less = refl
  slice_get-front (x ∷ xs) ys (suc n) less = slice_get-front xs ys n (omega (arith, less))

  slice_get-behind : (xs ys : List A) (n : ℕ) → length xs ≤ n → slice_get (xs ++ ys) n ≡ slice_get ys (n - length xs)
  slice_get-behind [] ys n less = ap (slice_get ys) (omega arith)
  slice_get-behind (x ∷ xs) ys zero less = absurd (omega (arith, less))
  slice_get-behind (x ∷ xs) ys (suc n) less = slice_get-behind xs ys n (omega (arith, less)) ∙ ap (slice_get ys) (omega arith)

-- one that is built
pub built_at : (n : ℕ) → n < length built → slice_get requests n ≡ Some (get_or built n Break)
built_at n less = slice_get-front built others n less ∙ slice_get-get_or built n Break less

-- a name of a list that is made into requests
named_at : (made : List ℕ → Request) (names : List (List ℕ)) (n : ℕ) → n < length names → slice_get (map made names) n ≡ Some (made (get_or names n []))
named_at made names n less = slice_get-map made names n ∙ ap (option_map made) (slice_get-get_or names n [] less)

-- places behind those that are built, and behind those without effect too
abbrev pub behind_built : ℕ → ℕ
behind_built n = n - length built

abbrev pub behind_effectless : ℕ → ℕ
behind_effectless n = behind_built n - length names_without_effect

pub without_effect_at : (n : ℕ) → length built ≤ n → behind_built n < length names_without_effect
    → slice_get requests n ≡ Some (WithoutEffect (get_or names_without_effect (behind_built n) []))
without_effect_at n above less =
    slice_get-behind built others n above
    ∙ slice_get-front (map WithoutEffect names_without_effect) (map LeftOut names_left_out) (behind_built n) less
    ∙ named_at WithoutEffect names_without_effect (behind_built n) less

-- behind both lists
left_out : (n : ℕ) → length built ≤ n → length names_without_effect ≤ behind_built n
    → slice_get requests n ≡ slice_get (map LeftOut names_left_out) (behind_effectless n)
left_out n above more =
    slice_get-behind built others n above
    ∙ slice_get-behind (map WithoutEffect names_without_effect) (map LeftOut names_left_out) (behind_built n) more

pub left_out_at : (n : ℕ) → length built ≤ n → length names_without_effect ≤ behind_built n → behind_effectless n < length names_left_out
    → slice_get requests n ≡ Some (LeftOut (get_or names_left_out (behind_effectless n) []))
left_out_at n above more less = left_out n above more ∙ named_at LeftOut names_left_out (behind_effectless n) less

pub none_at : (n : ℕ) → length built ≤ n → length names_without_effect ≤ behind_built n → length names_left_out ≤ behind_effectless n
    → slice_get requests n ≡ None
none_at n above more past = left_out n above more ∙ slice_get_past (map LeftOut names_left_out) (behind_effectless n) past
