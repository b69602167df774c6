-- Calls on a store of texts, for worked rows.
use Rattle.std.specs.Prelude.{ℕ, List, [], Option}
use Rattle.roff_store.specs.Named.{Named}
use Rattle.roff_store.specs.Texts.{Entry, Body, Texts}
use Rattle.roff_store.specs.TextCalls.{Call, Set, after_all}

-- a store without names, for so many bytes and names
abbrev pub no_texts : ℕ → ℕ → Texts
no_texts cap_bytes cap_names = record {
  names = record { entries = []; cap = cap_names };
  open_texts = [];
  leases = [];
  cap_bytes = cap_bytes;
  cap_kept = 100;
  cap_open = 2;
  cap_leases = 2;
}

-- `.ds`: a name and its body
abbrev pub sets : List ℕ → List ℕ → Call
sets name bytes = Set name (Body bytes)

-- the store after calls in turn, from no names on
abbrev pub store_after : ℕ → ℕ → List Call → Texts
store_after cap_bytes cap_names calls = after_all calls (no_texts cap_bytes cap_names)

-- and what its names stand for
abbrev pub names_after : ℕ → ℕ → List Call → Named Entry
names_after cap_bytes cap_names calls = (store_after cap_bytes cap_names calls).names.entries

-- and its texts in the making
abbrev pub open_after : ℕ → ℕ → List Call → List (List ℕ)
open_after cap_bytes cap_names calls = (store_after cap_bytes cap_names calls).open_texts

-- and what its leases still give
abbrev pub leases_after : ℕ → ℕ → List Call → List (Option (List ℕ))
leases_after cap_bytes cap_names calls = (store_after cap_bytes cap_names calls).leases
