-- What was looked at of the source, and whether anything more is taken of it.
use Rattle.std.specs.Prelude.{ℕ, Bool, true, false, [], ◌∷◌, Option, Some, None}
use Rattle.input_source.specs.Tape.{Tape, Answer, Gives, Ends, OneByte, Ended, items_then}
pub use Rattle.input_model.specs.declared.looked.Looked.{Looked}
pub use Rattle.input_model.specs.declared.looked.Looked.TheVariants.{Nothing, Byte, Closed}

-- whether the source's next byte is the next one: none was looked at, and more is taken
abbrev pub is_nothing : Looked → Bool
is_nothing Nothing = true
is_nothing (Byte b) = false
is_nothing (Closed kept) = false

-- whether nothing more is taken of the source
abbrev pub is_closed : Looked → Bool
is_closed Nothing = false
is_closed (Byte b) = false
is_closed (Closed kept) = true

-- nothing more is taken of it; a byte that was looked at stays
abbrev pub closing : Looked → Looked
closing Nothing = Closed None
closing (Byte b) = Closed (Some b)
closing (Closed kept) = Closed kept

-- the source's items, with a byte that was looked at in front
abbrev pub kept_then : Option ℕ → Tape → Tape
kept_then None t = t
kept_then (Some b) t = items_then (OneByte b ∷ []) t

abbrev pub looked_then : Looked → Tape → Tape
looked_then Nothing t = t
looked_then (Byte b) t = items_then (OneByte b ∷ []) t
looked_then (Closed kept) t = kept_then kept t

-- the source's next answer: the byte that was looked at comes before all others, and a closed source has ended
abbrev pub answer_behind : Looked → Answer → Answer
answer_behind Nothing a = a
answer_behind (Byte b) a = Gives (OneByte b)
answer_behind (Closed kept) a = Ends Ended
