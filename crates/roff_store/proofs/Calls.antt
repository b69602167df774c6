-- What a call makes of a table, and calls in turn.
use Rattle.std.proofs.Common.{◌≡◌, ℕ, ◌+◌, ◌<◌, ◌≤◌, true, false, List, [], ◌∷◌, length, is_some, refl, ap, ◌∙◌, arith, if◌then◌else◌, ◌&&◌}
use Rattle.std.proofs.lemmas.Bool.Decides.{nat_tests}
use Rattle.roff_num.specs.Ranges.{is_in_range, number}
use Rattle.roff_store.specs.declared.register.Register.{Register}
use Rattle.roff_num.specs.declared.direction.Direction.{Direction}
use Rattle.roff_store.specs.Named.{Named, Table, EachOnce, entry_of, with_entry, without_entry, has_room, put_into}
use Rattle.roff_store.specs.Registers.{Call, Set, SetFormat, Step, Remove, after, after_all, next_value, register_of, with_step}
use Rattle.roff_store.specs.Laws.{register_after, register_after_all, stepped_register}
use Rattle.roff_store.proofs.Entries.{bytes_eq_tells, entry_of-with_entry, entry_of-without_entry, length-with_entry, EachOnce-with_entry, EachOnce-without_entry}

-- a table in which no name has two registers, and which isn't past its limit
pub record IsCounted (t : Table Register) : Type 0 where
  pub once : EachOnce t.entries
  pub within : length t.entries ≤ t.cap

-- no more names once one is taken away
pub length-without_entry_le : {E : Type 0} (name : List ℕ) (es : Named E) → length (without_entry name es) ≤ length es
length-without_entry_le name [] = omega arith
length-without_entry_le name (e ∷ es) = let others = length-without_entry_le name es in grind arith

-- at most one name more once one is given an entry
pub length-with_entry_le : {E : Type 0} (name : List ℕ) (entry : E) (es : Named E) → length (with_entry name entry es) ≤ length es + 1
length-with_entry_le name entry es = let n = length-with_entry name entry es in grind arith

-- as many names once one that has an entry is given another
pub length-with_entry_same : {E : Type 0} (name : List ℕ) (entry : E) (es : Named E) → is_some (entry_of name es) ≡ true
    → length (with_entry name entry es) ≡ length es
length-with_entry_same name entry es had = let n = length-with_entry name entry es in grind arith

-- a table that is given an entry where it has room
pub IsCounted-put_into : (name : List ℕ) (r : Register) (t : Table Register) → IsCounted t → IsCounted (put_into name r t)
IsCounted-put_into name r t counted =
    elim (has_room name t) as (λ b. has_room name t ≡ b
    → IsCounted (if b then record t { entries = with_entry name r t.entries } else t)) [
      | true ↦ (λ room. record {
        once = EachOnce-with_entry name r t.entries counted.once;
        within = let n = length-with_entry name r t.entries in let m = counted.within in grind (arith, nat_tests);
      })
      | false ↦ (λ full. counted)
    ] refl

-- a table of which a register is stepped
pub IsCounted-with_step : (direction : Direction) (name : List ℕ) (t : Table Register) → IsCounted t
    → IsCounted (record t { entries = with_step direction name t.entries })
IsCounted-with_step direction name t counted =
    let r : Register = register_of name t.entries in
    let s : Register = record r { value = number (next_value direction r) } in
    elim (is_some (entry_of name t.entries) && is_in_range (next_value direction r))
    as (λ b. (is_some (entry_of name t.entries) && is_in_range (next_value direction r)) ≡ b
    → IsCounted (record t { entries = if b then with_entry name s t.entries else t.entries })) [
      | true ↦ (λ set. record {
        once = EachOnce-with_entry name s t.entries counted.once;
        within = let n = length-with_entry_same name s t.entries in let m = counted.within in grind arith;
      })
      | false ↦ (λ unset. counted)
    ] refl

-- a table after a call
pub IsCounted-after : (call : Call) (t : Table Register) → IsCounted t → IsCounted (after call t)
IsCounted-after (Set name value increment) t counted = IsCounted-put_into name _ t counted
IsCounted-after (SetFormat name format) t counted = IsCounted-put_into name _ t counted
IsCounted-after (Step name direction) t counted = IsCounted-with_step direction name t counted
IsCounted-after (Remove name) t counted = record {
  once = EachOnce-without_entry name t.entries counted.once;
  within = let n = length-without_entry_le name t.entries in let m = counted.within in omega arith;
}

-- a table after calls in turn
pub IsCounted-after_all : (calls : List Call) (t : Table Register) → IsCounted t → IsCounted (after_all calls t)
IsCounted-after_all [] t counted = counted
IsCounted-after_all (call ∷ calls) t counted = IsCounted-after_all calls (after call t) (IsCounted-after call t counted)

-- no call changes how many registers a table is for
pub cap-after : (call : Call) (t : Table Register) → (after call t).cap ≡ t.cap
cap-after (Set name value increment) t = grind arith
cap-after (SetFormat name format) t = grind arith
cap-after (Step name direction) t = refl
cap-after (Remove name) t = refl

-- and calls in turn don't
pub cap-after_all : (calls : List Call) (t : Table Register) → (after_all calls t).cap ≡ t.cap
cap-after_all [] t = refl
cap-after_all (call ∷ calls) t = cap-after_all calls (after call t) ∙ cap-after call t

-- where a table isn't full, a name is given an entry
pub put_into-room : (name : List ℕ) (r : Register) (t : Table Register) → length t.entries < t.cap
    → put_into name r t ≡ record t { entries = with_entry name r t.entries }
put_into-room name r t room = grind (arith, nat_tests)

-- the registers grow by at most one
pub length-after : (call : Call) (t : Table Register) → length t.entries < t.cap → length (after call t).entries ≤ length t.entries + 1
length-after (Set name value increment) t room =
    rw put_into-room (length-with_entry_le name _ t.entries)
length-after (SetFormat name format) t room =
    rw put_into-room (length-with_entry_le name _ t.entries)
length-after (Step name direction) t room =
    let n = length-with_entry_le name (stepped_register direction (register_of name t.entries)) t.entries in grind arith
length-after (Remove name) t room = let n = length-without_entry_le name t.entries in omega arith

-- the register of a name after a call that isn't refused
pub entry_of-after : (call : Call) (name : List ℕ) (t : Table Register) → length t.entries < t.cap
    → entry_of name (after call t).entries ≡ register_after call name (entry_of name t.entries)
entry_of-after (Set changed value increment) name t room =
    let has = entry_of-with_entry name changed (record (register_of changed t.entries) { value = value; increment = increment }) t.entries in
    rw put_into-room (grind (arith, bytes_eq_tells))
entry_of-after (SetFormat changed format) name t room =
    let has = entry_of-with_entry name changed (record (register_of changed t.entries) { format = format }) t.entries in
    rw put_into-room (grind (arith, bytes_eq_tells))
entry_of-after (Step changed direction) name t room =
    let has = entry_of-with_entry name changed (stepped_register direction (register_of changed t.entries)) t.entries in
    grind (arith, bytes_eq_tells)
entry_of-after (Remove changed) name t room = entry_of-without_entry name changed t.entries

-- and after calls in turn
pub entry_of-after_all : (calls : List Call) (name : List ℕ) (t : Table Register) → length t.entries + length calls ≤ t.cap
    → entry_of name (after_all calls t).entries ≡ register_after_all calls name (entry_of name t.entries)
entry_of-after_all [] name t room = refl
entry_of-after_all (call ∷ calls) name t room =
    let more = length-after call t (omega arith) in
    let cap = cap-after call t in
    entry_of-after_all calls name (after call t) (omega arith)
    ∙ ap (register_after_all calls name) (entry_of-after call name t (omega arith))
