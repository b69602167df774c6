-- Strings, macros and diversions under their names, texts in the making, and what is still to be read of bodies (manual, section 7).
use Rattle.std.specs.Prelude.{◌≡◌, ℕ, ◌+◌, ◌≤◌, Bool, true, false, List, [], ◌∷◌, length, get_or, sum_by, count_by, is_some, Option, Some, None}
use Rattle.roff_store.specs.declared.text.Entry.{Entry as Given}
use Rattle.roff_store.specs.declared.text.Entry.TheVariants.{Body as GivenBody, Request as GivenRequest}
use Rattle.roff_store.specs.declared.text.Kind.{Kind as KindGiven}
use Rattle.roff_store.specs.declared.text.Kind.TheVariants.{Body as LengthGiven, Request as NumberGiven}
use Rattle.roff_store.specs.Named.{Named, Table, entry_of}

-- what a name stands for
pub data Entry : Type 0 where
  -- a string, macro or diversion: its bytes
  Body : List ℕ → Entry
  -- a request: its number
  Request : ℕ → Entry

-- the entry that a call is given
abbrev pub entry_given : Given → Entry
entry_given (GivenBody bytes) = Body bytes.now
entry_given (GivenRequest number) = Request number

-- what a name stands for, without the bytes
pub data Kind : Type 0 where
  -- a body of so many bytes
  BodyOf : ℕ → Kind
  -- a request: its number
  RequestOf : ℕ → Kind

abbrev pub kind_of : Entry → Kind
kind_of (Body bytes) = BodyOf (length bytes)
kind_of (Request number) = RequestOf number

-- the kind that a call answers
abbrev pub kind_given : KindGiven → Kind
kind_given (LengthGiven count) = BodyOf count
kind_given (NumberGiven number) = RequestOf number

-- what a store holds
pub record Texts : Type 0 where
  -- what each name stands for, and how many names there may be
  pub names : Table Entry
  -- the texts in the making, the oldest first
  pub open_texts : List (List ℕ)
  -- for each number that a lease has or had: the bytes that the lease still gives, if it lives
  pub leases : List (Option (List ℕ))
  -- how many bytes bodies and texts in the making may have, and how many the leases may still give
  pub cap_bytes : ℕ
  pub cap_kept : ℕ
  -- how many texts in the making there may be, and how many leases
  pub cap_open : ℕ
  pub cap_leases : ℕ

-- the bytes of an entry; a request has none
abbrev pub bytes_of : Entry → List ℕ
bytes_of (Body bytes) = bytes
bytes_of (Request number) = []

-- the body of a name; a name that has none reads as an empty one
abbrev pub body_if_any : Option Entry → List ℕ
body_if_any None = []
body_if_any (Some entry) = bytes_of entry

abbrev pub body_of : List ℕ → Texts → List ℕ
body_of name t = body_if_any (entry_of name t.names.entries)

-- how many bytes the bodies have
abbrev pub bytes_in : Named Entry → ℕ
bytes_in entries = sum_by (λ e. length (bytes_of e.1)) entries

-- how many bytes bodies and texts in the making have; what only a lease still gives doesn't count
abbrev pub used : Texts → ℕ
used t = bytes_in t.names.entries + sum_by length t.open_texts

-- the bytes that a lease still gives
abbrev pub lease_bytes : Option (List ℕ) → List ℕ
lease_bytes None = []
lease_bytes (Some bytes) = bytes

-- how many bytes a lease still gives
abbrev pub rest_of : Option (List ℕ) → ℕ
rest_of None = 0
rest_of (Some bytes) = length bytes

-- how many bytes all leases still give
abbrev pub kept : Texts → ℕ
kept t = sum_by rest_of t.leases

-- how many leases live
abbrev pub live : Texts → ℕ
live t = count_by is_some t.leases

-- whether a name has a body
abbrev pub is_body : Option Entry → Bool
is_body (Some (Body bytes)) = true
is_body (Some (Request number)) = false
is_body None = false

abbrev pub has_body : List ℕ → Texts → Bool
has_body name t = is_body (entry_of name t.names.entries)

-- a lease, if it lives: the bytes that it still gives
abbrev pub lease_of : ℕ → Texts → Option (List ℕ)
lease_of id t = get_or t.leases id None

-- the next byte that a lease gives, if it has one
abbrev pub next_byte : Option (List ℕ) → Option ℕ
next_byte None = None
next_byte (Some []) = None
next_byte (Some (byte ∷ bytes)) = Some byte

-- a number that a lease may get: one that an ended lease had, or the next
pub record IsFree (id : ℕ) (t : Texts) : Type 0 where
  pub known : id ≤ length t.leases
  pub free : lease_of id t ≡ None

-- of some texts in the making, the number of the newest, if there is one
abbrev pub newest : List (List ℕ) → Option ℕ
newest [] = None
newest (text ∷ texts) = Some (length texts)
