-- What Roman numbers count.
use Rattle.std.proofs.Common.{◌≡◌, ℕ, zero, suc, ◌<◌, ◌≤◌, Bool, true, ◌&&◌, eqb, inl, inr, refl, arith, eqb-true}
use Rattle.std.proofs.lemmas.Bool.{and_parts}
use Rattle.std.proofs.Math.Nat.{eq-or-lt_of_le}
use Rattle.roff_num.specs.Roman.{roman, roman_value}

-- whether each number below n counts what it is
counts_below : ℕ → Bool
counts_below zero = true
counts_below (suc n) = eqb (roman_value (roman n)) n && counts_below n

-- then so does one of them
counts : (m n : ℕ) → counts_below m ≡ true → n < m → roman_value (roman n) ≡ n
unfolding counts_below
counts zero n all lt = absurd (omega arith)
counts (suc m) n all lt =
    let (last, before) = and_parts (eqb (roman_value (roman m)) m) (counts_below m) all in
    let le : n ≤ m = omega arith in
    elim (eq-or-lt_of_le le) [
      | inl same ↦ rw same (eqb-true (roman_value (roman m)) m last)
      | inr below ↦ counts m n before below
    ]

-- computed for all of them
all_count : counts_below 4000 ≡ true
unfolding counts_below roman
all_count = refl

-- a Roman number counts the number that it writes
pub roman_value-roman : (n : ℕ) → n ≤ 3999 → roman_value (roman n) ≡ n
roman_value-roman n le = counts 4000 n all_count (omega arith)
