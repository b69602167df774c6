-- The keys and letters of a format (Lesk, "Tbl": Format).
use Rattle.std.specs.Prelude.{ℕ, Bool, ◌||◌, List, Option, None, Some, codes, if◌then◌else◌, ◌==◌}
use Rattle.std.specs.List.{list_any}
use Rattle.input_source.specs.Bytes.{tab, newline, blank, comma}
use Rattle.tbl_options.specs.Options.{as_small}
use Rattle.tbl_format.specs.declared.format.Key.{Key}
use Rattle.tbl_format.specs.declared.format.Key.TheVariants.{Above, Alphabetic, Center, DoubleRule, Left, Numeric, Right, Rule, Spanned}

-- whether a byte is one of these letters, in either case
abbrev pub is_one_of : ℕ → List ℕ → Bool
is_one_of b letters = list_any (λ letter. as_small b == letter) letters

-- the key that a byte is, in either case
abbrev pub key_of : ℕ → Option Key
key_of b =
    if is_one_of b (codes "l") then Some Left
    else if is_one_of b (codes "r") then Some Right
    else if is_one_of b (codes "c") then Some Center
    else if is_one_of b (codes "n") then Some Numeric
    else if is_one_of b (codes "a") then Some Alphabetic
    else if is_one_of b (codes "s") then Some Spanned
    else if is_one_of b (codes "^") then Some Above
    else if is_one_of b (codes "_-") then Some Rule
    else if is_one_of b (codes "=") then Some DoubleRule
    else None

-- whether a byte separates rows
abbrev pub separates_rows : ℕ → Bool
separates_rows b = b == comma || b == newline

-- whether a byte may stand between keys, numbers and letters
abbrev pub is_between : ℕ → Bool
is_between b = b == blank || b == tab
