-- Calls on leases, and calls on names and texts in the making; what calls in turn keep.
use Rattle.std.specs.Prelude.{ℕ, ◌≤◌, ◌++◌, Bool, true, false, List, length, Option, Some, None, if◌then◌else◌}
use Rattle.std.specs.Str.{bytes_eq}
use Rattle.roff_store.specs.Named.{EachOnce, entry_of}
use Rattle.roff_store.specs.TextCalls.{Call, Set, Append, Remove, Rename, Enter, Lease, Take, Release, open_text, text_before}
use Rattle.roff_store.specs.Texts.{Entry, Body, Texts, body_of, used}

-- whether a call is one on leases
abbrev pub is_of_lease : Call → Bool
is_of_lease (Lease name id) = true
is_of_lease (Take id count) = true
is_of_lease (Release id) = true
is_of_lease _ = false

-- a store in which no name stands twice, and which is past no limit on names and bytes
pub record IsCounted (t : Texts) : Type 0 where
  pub once : EachOnce t.names.entries
  pub names : length t.names.entries ≤ t.names.cap
  pub bytes : used t ≤ t.cap_bytes

-- what a name stands for once another one is renamed that stood for this: the second name of the two, the first, or another
abbrev pub entry_moved : List ℕ → List ℕ → List ℕ → Option Entry → Option Entry → Option Entry
entry_moved from to name None was = was
entry_moved from to name (Some entry) was =
    if bytes_eq name to then Some entry else if bytes_eq name from then None else was

-- what a call that isn't refused lets a name stand for
abbrev pub entry_after : Call → List ℕ → Texts → Option Entry
entry_after (Set changed entry) name t =
    if bytes_eq name changed then Some entry else entry_of name t.names.entries
entry_after (Append changed bytes) name t =
    if bytes_eq name changed then Some (Body (body_of changed t ++ bytes)) else entry_of name t.names.entries
entry_after (Remove changed) name t = if bytes_eq name changed then None else entry_of name t.names.entries
entry_after (Rename from to) name t =
    if bytes_eq from to then entry_of name t.names.entries
    else entry_moved from to name (entry_of from t.names.entries) (entry_of name t.names.entries)
entry_after (Enter id changed append) name t =
    if bytes_eq name changed then Some (Body (text_before append changed t ++ open_text id t))
    else entry_of name t.names.entries
entry_after _ name t = entry_of name t.names.entries
