-- The names that the arguments of a line give.
use Rattle.std.specs.Prelude.{ℕ, List, Option, Some, None}
use Rattle.roff_num.specs.Names.{name_of}
use Rattle.run_model.specs.Requests.Numbering.{name_given}

-- the name that an argument gives, if there is one that gives one
abbrev pub name_in : Option (List ℕ) → Option (List ℕ)
name_in None = None
name_in (Some text) = name_of (name_given text)
