-- What is kept of calls that aren't over.
use Rattle.std.specs.Prelude.{◌≡◌, ℕ, ◌+◌, ◌*◌, ◌≤◌, List, [], ◌∷◌, drop, length, reverse, take, vec_capacity}
use Rattle.roff_num.specs.Lists.{last_end, EndInOrder, parts_ending}
use Rattle.input_arguments.specs.declared.calls.CallStart.{CallStart}
use Rattle.input_arguments.specs.declared.calls.Calls.TheInside.{Inside}

-- the arguments of each call, the innermost first; for so many bytes and calls there is room
pub record KeptCalls : Type 0 where
  pub calls : List (List (List ℕ))
  pub most_bytes : ℕ
  pub most_calls : ℕ

-- the arguments of the innermost call
abbrev pub first_call : List (List (List ℕ)) → List (List ℕ)
first_call [] = []
first_call (arguments ∷ calls) = arguments

-- the calls that begin so, the innermost first, in a block of bytes, by where their arguments end
abbrev pub calls_in : List CallStart → List ℕ → List ℕ → List (List (List ℕ))
calls_in [] bytes ends = []
calls_in (start ∷ below) bytes ends =
    parts_ending (drop start.byte bytes) 0 (drop start.end ends) ∷ calls_in below (take start.byte bytes) (take start.end ends)

-- the arguments of the call that begins so lie on top of a block, the last one ends with it, and few of them have no byte
pub record IsOnTop (start : CallStart) (bytes ends : List ℕ) : Type 0 where
  pub byte : start.byte ≤ length bytes
  pub end : start.end ≤ length ends
  pub within : EndInOrder (length (drop start.byte bytes)) 0 (drop start.end ends)
  pub last : last_end 0 (drop start.end ends) ≡ length (drop start.byte bytes)
  pub few : length (drop start.end ends) ≤ length (drop start.byte bytes) + 32

-- each call lies on top of those that began before it, and the first one lies on none
abbrev pub AreStacked : List CallStart → List ℕ → List ℕ → Type 0
AreStacked [] bytes ends = (bytes ≡ []) × (ends ≡ [])
AreStacked (start ∷ below) bytes ends =
    IsOnTop start bytes ends × AreStacked below (take start.byte bytes) (take start.end ends)

-- what the fields keep
abbrev pub kept_by : Inside → KeptCalls
kept_by a = record {
  calls = calls_in (reverse a.starts.items) a.bytes.items a.ends.items;
  most_bytes = a.most_bytes;
  most_calls = a.most_calls;
}

-- the room is reserved, and the calls lie within it
pub record IsSound (a : Inside) : Type 0 where
  pub bytes : a.most_bytes ≤ vec_capacity a.bytes
  pub ends : a.most_bytes + 32 * a.most_calls ≤ vec_capacity a.ends
  pub starts : a.most_calls ≤ vec_capacity a.starts
  pub stacked : AreStacked (reverse a.starts.items) a.bytes.items a.ends.items
  pub room : length a.bytes.items ≤ a.most_bytes
  pub calls : length a.starts.items ≤ a.most_calls
