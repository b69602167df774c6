-- Texts that lie in a block one after another, by where each ends.
use Rattle.std.specs.Prelude.{ℕ, ◌≤◌, Bool, ◌||◌, List, [], ◌∷◌, length, nat_lt}
use Rattle.std.specs.Coded.{×_prop, le_prop}
use Rattle.std.specs.List.{slice_range}
use Rattle.roff_num.specs.Lists.{last_end, EndInOrder}
use Rattle.input_model.specs.Arguments.{kept_by_place}

-- whether an argument is kept that lies behind others, by where they end, and ends there itself
abbrev pub is_kept : List ℕ → ℕ → Bool
is_kept ends end = nat_lt (length ends) kept_by_place || nat_lt (last_end 0 ends) end

-- any two proofs of it are equal
pub EndInOrder-prop : (len from : ℕ) (ends : List ℕ) → IsProp (EndInOrder len from ends)
EndInOrder-prop len from [] = le_prop
EndInOrder-prop len from (end ∷ ends) = ×_prop le_prop (EndInOrder-prop len end ends)
