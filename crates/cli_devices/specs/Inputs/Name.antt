-- The name of standard input among the files.
use Rattle.std.specs.Prelude.{ℕ, Bool, List, bytes_eq, codes}

-- the file is standard input by its name, "-"
abbrev pub names_standard_input : List ℕ → Bool
names_standard_input name = bytes_eq name (codes "-")
