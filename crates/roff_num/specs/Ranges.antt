-- The numbers that a register or a length may be: 32 bits with a sign.
use Rattle.std.specs.Prelude.{ℕ, Bool, ℤ, pos, negsuc, neg_ℤ, nat_lt, Result, Ok, Err, if◌then◌else◌}
use Rattle.roff_num.specs.declared.num.Num.{Num}
use Rattle.roff_num.specs.declared.num.NumFault.{NumFault}
use Rattle.roff_num.specs.declared.num.NumFault.TheVariants.{Range}

-- the greatest of them
abbrev pub greatest_number : ℕ
greatest_number = 2147483647

-- a value as a number
abbrev pub number : ℤ → Num
number z = record { 0 = z }

-- whether a value lies from -2147483648 to 2147483647
abbrev pub is_in_range : ℤ → Bool
is_in_range (pos n) = nat_lt n 2147483648
is_in_range (negsuc n) = nat_lt n 2147483648

-- a value in range, or the fault that it isn't
abbrev pub in_range : ℤ → Result ℤ NumFault
in_range z = if is_in_range z then Ok z else Err Range

-- a value behind a sign
abbrev pub signed : Bool → ℤ → ℤ
signed is_negative z = if is_negative then neg_ℤ z else z
