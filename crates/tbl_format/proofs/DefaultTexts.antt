-- The texts of the limits' values where none is set.
use Rattle.std.proofs.Common.{◌≡◌, ℕ, List, refl, codes}
use Rattle.std.specs.Fmt.{decimal, digits}
use Rattle.roff_num.specs.declared.limit.Limit.{Limit}
use Rattle.roff_num.specs.declared.limit.Limit.TheVariants.{Bytes, Stack, Depth, Line, Traps, Diversions, Environments, Conditions, Output, Store, Names, Rows, Columns, Text, Width, TblBytes, Messages}
use Rattle.tbl_format.specs.TblLimits.{default_tbl_limits, tbl_value_of}

-- a limit's value where none is set, in decimal
abbrev default_text : Limit → List ℕ
default_text Bytes = codes "0"
default_text Stack = codes "0"
default_text Depth = codes "0"
default_text Line = codes "0"
default_text Traps = codes "0"
default_text Diversions = codes "0"
default_text Environments = codes "0"
default_text Conditions = codes "0"
default_text Output = codes "200000000"
default_text Store = codes "0"
default_text Names = codes "0"
default_text Rows = codes "5000"
default_text Columns = codes "40"
default_text Text = codes "262144"
default_text Width = codes "4096"
default_text TblBytes = codes "50000000"
default_text Messages = codes "18446744073709551615"

-- it is the decimal text of that value
pub decimal_default : (limit : Limit) → decimal (tbl_value_of default_tbl_limits limit) ≡ default_text limit
unfolding digits
decimal_default Bytes = refl
decimal_default Stack = refl
decimal_default Depth = refl
decimal_default Line = refl
decimal_default Traps = refl
decimal_default Diversions = refl
decimal_default Environments = refl
decimal_default Conditions = refl
decimal_default Output = refl
decimal_default Store = refl
decimal_default Names = refl
decimal_default Rows = refl
decimal_default Columns = refl
decimal_default Text = refl
decimal_default Width = refl
decimal_default TblBytes = refl
decimal_default Messages = refl
