-- The last byte of a body, and whether it lacks a newline there.
use Rattle.std.proofs.Common.{◌≡◌, ℕ, Bool, false, List, [], ◌∷◌, ◌++◌, Option, Some, None, refl, sym, ap, ◌∙◌, not, reverse, ◌==◌}
use Rattle.std.specs.List.{last_or}
use Rattle.std.proofs.lemmas.List.{reverse-append, reverse-reverse}
use Rattle.input_source.specs.Bytes.{newline}
use Rattle.input_model.specs.Input.Calls.{lacks_newline}

-- whether a byte that comes last isn't a newline
abbrev pub is_no_newline : Option ℕ → Bool
is_no_newline None = false
is_no_newline (Some b) = not (b == newline)

-- the last item of a list is the one at its end
last-behind : (o : Option ℕ) (xs : List ℕ) (x : ℕ) → last_or o (xs ++ x ∷ []) ≡ Some x
last-behind o [] x = refl
last-behind o (y ∷ ys) x = last-behind (Some y) ys x

-- so it is the first one of the list read backwards
last-reverse : (backwards : List ℕ)
    → is_no_newline (last_or None (reverse backwards))
    ≡ elim backwards as (λ _. Bool) [ [] ↦ false | last ∷ others ↦ not (last == newline) ]
last-reverse [] = refl
last-reverse (x ∷ xs) = ap is_no_newline (ap (last_or None) (reverse-append (x ∷ []) xs) ∙ last-behind None (reverse xs) x)

-- a body lacks a newline if its last byte is another one
pub lacks_newline-last : (body : List ℕ) → is_no_newline (last_or None body) ≡ lacks_newline body
lacks_newline-last body =
    ap (λ (bytes : List ℕ). is_no_newline (last_or None bytes)) (sym (reverse-reverse body)) ∙ last-reverse (reverse body)
