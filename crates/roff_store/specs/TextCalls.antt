-- What calls make of a store of texts (manual, section 7).
use Rattle.std.specs.Prelude.{ℕ, Bool, List, [], ◌∷◌, ◌++◌, length, get_or, set, remove, drop, Option, Some, None, nat_lt, ◌==◌, Result, Ok, Err, if◌then◌else◌}
use Rattle.std.specs.Str.{bytes_eq}
use Rattle.roff_num.specs.declared.limit.Limit.{Limit}
use Rattle.roff_num.specs.declared.limit.Limit.TheVariants.{Store}
use Rattle.roff_store.specs.Named.{Named, admitted, entry_of, with_entry, without_entry}
use Rattle.roff_store.specs.Texts.{Entry, Body, Texts, body_of, lease_of, used}

-- a call that changes a store of texts
pub data Call : Type 0 where
  -- a name stands for an entry from now on
  Set : List ℕ → Entry → Call
  -- bytes are put behind the body of a name
  Append : List ℕ → List ℕ → Call
  -- `.rm`: a name goes
  Remove : List ℕ → Call
  -- `.rn`: what the first name stands for, the second one stands for in its place
  Rename : List ℕ → List ℕ → Call
  -- a text is begun
  Open : Call
  -- bytes are put behind a text in the making
  PushOpen : ℕ → List ℕ → Call
  -- a text in the making ends: it is put behind the body of a name, or is the name's body from now on
  Enter : ℕ → List ℕ → Bool → Call
  -- a text in the making is dropped
  DropOpen : ℕ → Call
  -- the body of a name is leased, under a number
  Lease : List ℕ → ℕ → Call
  -- a lease gives so many bytes
  Take : ℕ → ℕ → Call
  -- a lease ends
  Release : ℕ → Call

-- the store with these entries
abbrev pub with_entries : Named Entry → Texts → Texts
with_entries entries t = record t { names = record t.names { entries = entries } }

-- the store in which a name stands for an entry
abbrev pub with_name : List ℕ → Entry → Texts → Texts
with_name name entry t = with_entries (with_entry name entry t.names.entries) t

-- the entries once what one name stands for, if anything, another one stands for in its place
abbrev pub moved_to : List ℕ → List ℕ → Option Entry → Named Entry → Named Entry
moved_to from to None entries = entries
moved_to from to (Some entry) entries = with_entry to entry (without_entry from entries)

-- the entries once a name is renamed; nothing changes where the names are the same
abbrev pub renamed : List ℕ → List ℕ → Named Entry → Named Entry
renamed from to entries = if bytes_eq from to then entries else moved_to from to (entry_of from entries) entries

-- a text in the making
abbrev pub open_text : ℕ → Texts → List ℕ
open_text id t = get_or t.open_texts id []

-- what a text is put behind: the body of the name, or nothing
abbrev pub text_before : Bool → List ℕ → Texts → List ℕ
text_before append name t = if append then body_of name t else []

-- the leases with this one under a number that none of them has: one of an ended lease, or the next
abbrev pub with_lease : ℕ → Option (List ℕ) → List (Option (List ℕ)) → List (Option (List ℕ))
with_lease id lease leases = if id == length leases then leases ++ lease ∷ [] else set leases id lease

-- a lease once it has given so many bytes, or all that it had
abbrev pub bytes_given : ℕ → Option (List ℕ) → Option (List ℕ)
bytes_given count None = None
bytes_given count (Some bytes) = Some (drop count bytes)

-- the store that a call would make if nothing had a limit
abbrev pub made : Call → Texts → Texts
made (Set name entry) t = with_name name entry t
made (Append name bytes) t = with_name name (Body (body_of name t ++ bytes)) t
made (Remove name) t = with_entries (without_entry name t.names.entries) t
made (Rename from to) t = with_entries (renamed from to t.names.entries) t
made Open t = record t { open_texts = t.open_texts ++ [] ∷ [] }
made (PushOpen id bytes) t = record t { open_texts = set t.open_texts id (open_text id t ++ bytes) }
made (Enter id name append) t =
    record (with_name name (Body (text_before append name t ++ open_text id t)) t) { open_texts = remove t.open_texts id }
made (DropOpen id) t = record t { open_texts = remove t.open_texts id }
made (Lease name id) t = record t { leases = with_lease id (Some (body_of name t)) t.leases }
made (Take id count) t = record t { leases = set t.leases id (bytes_given count (lease_of id t)) }
made (Release id) t = record t { leases = set t.leases id None }

-- the limit that a store would pass by its bytes; else what is answered without that
abbrev pub within_bytes : Texts → Result (Unit {0}) Limit → Result (Unit {0}) Limit
within_bytes t answer = if nat_lt t.cap_bytes (used t) then Err Store else answer

-- what a call answers: a limit that would be passed, the bytes before the names
abbrev pub answered : Call → Texts → Result (Unit {0}) Limit
answered (Set name entry) t = within_bytes (made (Set name entry) t) (admitted name t.names)
answered (Append name bytes) t = within_bytes (made (Append name bytes) t) (admitted name t.names)
answered (PushOpen id bytes) t = within_bytes (made (PushOpen id bytes) t) (Ok tt)
answered (Enter id name append) t = admitted name t.names
answered _ t = Ok tt

-- the store that was made; the one from before where a limit would be passed
abbrev pub unless_refused : Result (Unit {0}) Limit → Texts → Texts → Texts
unless_refused (Ok done) before made = made
unless_refused (Err limit) before made = before

-- the store after a call
abbrev pub after : Call → Texts → Texts
after call t = unless_refused (answered call t) t (made call t)

-- the store after calls in turn
abbrev pub after_all : List Call → Texts → Texts
after_all [] t = t
after_all (call ∷ calls) t = after_all calls (after call t)
