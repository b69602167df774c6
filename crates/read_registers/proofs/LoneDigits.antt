-- The value of a text that is one digit, or one with the letter of a column behind it.
use Rattle.std.proofs.Common.{◌≡◌, ◌≤◌, ◌+◌, ◌*◌, ℕ, zero, suc, pos, [], ◌∷◌, Ok, refl, arith}
use Rattle.roff_num.specs.Expressions.{folded_onto, operand_within, value_at}
use Rattle.roff_num.specs.declared.num.Scale.{Scale}
use Rattle.roff_num.specs.declared.num.Scale.TheVariants.{Units, Columns, Lines}
use Rattle.run_model.specs.Numbers.{value_in}

-- it is the digit's
pub value_in-digit : (digit : ℕ) → digit ≤ 9 → value_in Units ((48 + digit) ∷ []) ≡ Ok (pos digit)
unfolding folded_onto operand_within value_at
value_in-digit zero few = refl
value_in-digit (suc zero) few = refl
value_in-digit (suc (suc zero)) few = refl
value_in-digit (suc (suc (suc zero))) few = refl
value_in-digit (suc (suc (suc (suc zero)))) few = refl
value_in-digit (suc (suc (suc (suc (suc zero))))) few = refl
value_in-digit (suc (suc (suc (suc (suc (suc zero)))))) few = refl
value_in-digit (suc (suc (suc (suc (suc (suc (suc zero))))))) few = refl
value_in-digit (suc (suc (suc (suc (suc (suc (suc (suc zero)))))))) few = refl
value_in-digit (suc (suc (suc (suc (suc (suc (suc (suc (suc zero))))))))) few = refl
value_in-digit (suc (suc (suc (suc (suc (suc (suc (suc (suc (suc more)))))))))) few = absurd (omega (arith, few))

-- in columns
pub value_in-digit_columns : (digit : ℕ) → digit ≤ 9 → value_in Columns ((48 + digit) ∷ []) ≡ Ok (pos (digit * 24))
unfolding folded_onto operand_within value_at
value_in-digit_columns zero few = refl
value_in-digit_columns (suc zero) few = refl
value_in-digit_columns (suc (suc zero)) few = refl
value_in-digit_columns (suc (suc (suc zero))) few = refl
value_in-digit_columns (suc (suc (suc (suc zero)))) few = refl
value_in-digit_columns (suc (suc (suc (suc (suc zero))))) few = refl
value_in-digit_columns (suc (suc (suc (suc (suc (suc zero)))))) few = refl
value_in-digit_columns (suc (suc (suc (suc (suc (suc (suc zero))))))) few = refl
value_in-digit_columns (suc (suc (suc (suc (suc (suc (suc (suc zero)))))))) few = refl
value_in-digit_columns (suc (suc (suc (suc (suc (suc (suc (suc (suc zero))))))))) few = refl
value_in-digit_columns (suc (suc (suc (suc (suc (suc (suc (suc (suc (suc more)))))))))) few = absurd (omega (arith, few))

-- in lines
pub value_in-digit_lines : (digit : ℕ) → digit ≤ 9 → value_in Lines ((48 + digit) ∷ []) ≡ Ok (pos (digit * 40))
unfolding folded_onto operand_within value_at
value_in-digit_lines zero few = refl
value_in-digit_lines (suc zero) few = refl
value_in-digit_lines (suc (suc zero)) few = refl
value_in-digit_lines (suc (suc (suc zero))) few = refl
value_in-digit_lines (suc (suc (suc (suc zero)))) few = refl
value_in-digit_lines (suc (suc (suc (suc (suc zero))))) few = refl
value_in-digit_lines (suc (suc (suc (suc (suc (suc zero)))))) few = refl
value_in-digit_lines (suc (suc (suc (suc (suc (suc (suc zero))))))) few = refl
value_in-digit_lines (suc (suc (suc (suc (suc (suc (suc (suc zero)))))))) few = refl
value_in-digit_lines (suc (suc (suc (suc (suc (suc (suc (suc (suc zero))))))))) few = refl
value_in-digit_lines (suc (suc (suc (suc (suc (suc (suc (suc (suc (suc more)))))))))) few = absurd (omega (arith, few))

-- behind the letter
pub value_in-columns : (scale : Scale) → (digit : ℕ) → digit ≤ 9 → value_in scale ((48 + digit) ∷ 110 ∷ []) ≡ Ok (pos (digit * 24))
unfolding folded_onto operand_within value_at
value_in-columns scale zero few = refl
value_in-columns scale (suc zero) few = refl
value_in-columns scale (suc (suc zero)) few = refl
value_in-columns scale (suc (suc (suc zero))) few = refl
value_in-columns scale (suc (suc (suc (suc zero)))) few = refl
value_in-columns scale (suc (suc (suc (suc (suc zero))))) few = refl
value_in-columns scale (suc (suc (suc (suc (suc (suc zero)))))) few = refl
value_in-columns scale (suc (suc (suc (suc (suc (suc (suc zero))))))) few = refl
value_in-columns scale (suc (suc (suc (suc (suc (suc (suc (suc zero)))))))) few = refl
value_in-columns scale (suc (suc (suc (suc (suc (suc (suc (suc (suc zero))))))))) few = refl
value_in-columns scale (suc (suc (suc (suc (suc (suc (suc (suc (suc (suc more)))))))))) few = absurd (omega (arith, few))
