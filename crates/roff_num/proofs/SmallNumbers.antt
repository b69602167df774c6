-- Numbers of one digit in decimal.
use Rattle.std.proofs.Common.{◌≡◌, ℕ, ◌+◌, ◌-◌, ◌<◌, zero, suc, List, [], ◌∷◌, ◌++◌, length, refl, ap, ◌∙◌, arith, min, replicate}
use Rattle.std.specs.Fmt.{decimal, digits}
use Rattle.roff_num.specs.RegisterText.{decimal_field}

-- they are that digit
decimal-small : (n : ℕ) → n < 10 → decimal n ≡ (48 + n) ∷ []
unfolding digits
decimal-small zero few = refl
decimal-small (suc zero) few = refl
decimal-small (suc (suc zero)) few = refl
decimal-small (suc (suc (suc zero))) few = refl
decimal-small (suc (suc (suc (suc zero)))) few = refl
decimal-small (suc (suc (suc (suc (suc zero))))) few = refl
decimal-small (suc (suc (suc (suc (suc (suc zero)))))) few = refl
decimal-small (suc (suc (suc (suc (suc (suc (suc zero))))))) few = refl
decimal-small (suc (suc (suc (suc (suc (suc (suc (suc zero)))))))) few = refl
decimal-small (suc (suc (suc (suc (suc (suc (suc (suc (suc zero))))))))) few = refl
decimal-small (suc (suc (suc (suc (suc (suc (suc (suc (suc (suc n)))))))))) few = absurd (omega (arith, few))

-- so a field of one digit has no zero in front
pub field-small : (width n : ℕ) → width ≡ 1 → n < 10 → decimal_field (min width 32) n ≡ (48 + n) ∷ []
field-small width n one few =
    ap (λ (w : ℕ). decimal_field (min w 32) n) one ∙ ap (λ (text : List ℕ). replicate (min 1 32 - length text) 48 ++ text) (decimal-small n few)
