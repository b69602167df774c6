-- Names of one or two bytes, as arguments give them (manual, section 7).
use Rattle.std.specs.Prelude.{ℕ, List, [], ◌∷◌, Option, Some, None, option_map, option_to_list, slice_get}
use Rattle.roff_num.specs.declared.short_name.ShortName.{ShortName}

-- the bytes of a name
abbrev pub name_bytes : ShortName → List ℕ
name_bytes name = name.first ∷ option_to_list name.second

-- the name that an argument gives: its first two bytes
abbrev pub short_name : List ℕ → Option ShortName
short_name [] = None
short_name (first ∷ []) = Some (record { first = first; second = None })
short_name (first ∷ second ∷ others) = Some (record { first = first; second = Some second })

-- the name that an argument at an index gives, if the argument is there
abbrev pub name_at : ℕ → List (List ℕ) → Option (Option ShortName)
name_at index as_given = option_map short_name (slice_get as_given index)

-- the name that it gives, if it is there and gives one
abbrev pub name_or_none : Option (Option ShortName) → Option ShortName
name_or_none None = None
name_or_none (Some name) = name
