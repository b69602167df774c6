-- The requests around a table's picture (Lesk, "Tbl": Options, Formatting).
use Rattle.std.specs.Prelude.{ℕ, ◌-◌, ◌/◌, Bool, List, [], ◌++◌, codes, decimal, if◌then◌else◌, ◌==◌}

-- how far a picture of a width is indented: half of what it lacks to the line length, if it is centred
abbrev pub indent : Bool → ℕ → ℕ → ℕ
indent is_centered line_length width = if is_centered then (line_length - width) / 2 else 0

-- the request that changes the indent by so much
abbrev pub indenting : List ℕ → ℕ → List ℕ
indenting sign n = if n == 0 then [] else codes ".in " ++ (sign ++ (decimal n ++ codes "n\n"))

-- the requests before the lines of a picture, and those behind them: it stands without filling, at its indent
abbrev pub before_lines : ℕ → List ℕ
before_lines n = codes ".nr TF \\n(.u\n.nf\n" ++ indenting (codes "+") n

abbrev pub behind_lines : ℕ → List ℕ
behind_lines n = indenting (codes "-") n ++ codes ".if \\n(TF .fi\n"

-- a picture with the requests around it
abbrev pub picture : ℕ → List ℕ → List ℕ
picture n lines = before_lines n ++ (lines ++ behind_lines n)
