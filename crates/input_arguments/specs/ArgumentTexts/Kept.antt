-- What a buffer of arguments keeps.
use Rattle.std.specs.Prelude.{◌≡◌, ℕ, ◌+◌, ◌<◌, ◌≤◌, ◌^◌, true, List, length, reverse, take, drop, vec_capacity, Option, false, get_or}
use Rattle.std.specs.List.{AllByRecursion}
use Rattle.input_model.specs.Arguments.{Arguments, HeldFewer, bytes_held, kept, only_kept, AreFewer}
use Rattle.input_source.specs.Bytes.{is_argument_byte}
use Rattle.roff_num.specs.Lists.{last_end, EndInOrder, parts_ending}
use Rattle.input_arguments.specs.declared.arguments.ArgumentTexts.TheInside.{Inside}

-- the arguments, and how many bytes there is room for
pub record KeptArguments : Type 0 where
  pub arguments : Arguments
  pub room : ℕ

-- of other arguments it keeps those that are to be kept
abbrev pub keeping : KeptArguments → Arguments → KeptArguments
keeping k a = record k { arguments = only_kept a }

-- what the fields keep: the argument being read lies behind the last that is whole
abbrev pub kept_by : Inside → KeptArguments
kept_by a = record {
  arguments = record {
    whole = reverse (parts_ending a.bytes.items 0 a.ends.items);
    begun = reverse (drop (last_end 0 a.ends.items) a.bytes.items);
    place = a.place;
  };
  room = a.room;
}

-- the room is reserved, the texts lie within it, and each of them is to be kept
pub record IsSound (a : Inside) : Type 0 where
  pub small : a.room < 2 ^ 32
  pub bytes_reserved : a.room ≤ vec_capacity a.bytes
  pub ends_reserved : a.room + 32 ≤ vec_capacity a.ends
  pub within : length a.bytes.items ≤ a.room
  pub ends : EndInOrder (length a.bytes.items) 0 a.ends.items
  pub kept : kept (parts_ending a.bytes.items 0 a.ends.items) ≡ parts_ending a.bytes.items 0 a.ends.items

-- the buffer keeps what is to be kept of a line's arguments
pub record Keeps (a : Arguments) (k : KeptArguments) : Type 0 where
  pub same : k.arguments ≡ only_kept a

-- so many of these bytes were taken, one after another, each held as it is read where few enough arguments are whole
pub record HoldsFront (most : Option ℕ) (bytes : List ℕ) (count : ℕ) (old new : KeptArguments) : Type 0 where
  pub few : count ≤ length bytes
  pub plain : AllByRecursion (λ b. is_argument_byte b ≡ true) (take count bytes)
  pub fewer : HeldFewer most (take count bytes) old.arguments
  pub taken : new ≡ record old { arguments = bytes_held (take count bytes) old.arguments }

-- why no more than so many of these bytes were taken, with these arguments behind them: there are no more, the next one isn't held as
-- it is read, or as many arguments are whole as may be
pub data StopsAt (most : Option ℕ) (bytes : List ℕ) (count : ℕ) (a : Arguments) : Type 0 where
  NoMore : length bytes ≤ count → StopsAt most bytes count a
  NotHeld : is_argument_byte (get_or bytes count 0) ≡ false → StopsAt most bytes count a
  AsManyWhole : (AreFewer most a → ⊥) → StopsAt most bytes count a
