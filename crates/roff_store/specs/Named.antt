-- Entries under names: each name has at most one.
use Rattle.std.specs.Prelude.{◌≡◌, ℕ, Bool, ◌||◌, List, [], ◌∷◌, length, Option, Some, None, is_some, nat_lt, Result, Ok, Err, if◌then◌else◌, refl}
use Rattle.std.specs.Coded.{Coded, code_by, coded×, coded_ℕ, coded_list}
use Rattle.std.specs.Str.{bytes_eq}
use Rattle.roff_num.specs.declared.limit.Limit.{Limit}
use Rattle.roff_num.specs.declared.limit.Limit.TheVariants.{Names}

-- names with their entries, in the order in which the names came
abbrev pub Named : Type 0 → Type 0
Named E = List (List ℕ × E)

-- the entry of a name, if it has one
abbrev pub entry_of : {E : Type 0} → List ℕ → Named E → Option E
entry_of name [] = None
entry_of name (first ∷ others) = if bytes_eq name first.0 then Some first.1 else entry_of name others

-- the entries with this one for a name: in the place of the one that it had, else behind all others
abbrev pub with_entry : {E : Type 0} → List ℕ → E → Named E → Named E
with_entry name entry [] = (name, entry) ∷ []
with_entry name entry (first ∷ others) =
    if bytes_eq name first.0 then (name, entry) ∷ others else first ∷ with_entry name entry others

-- the entries without that of a name
abbrev pub without_entry : {E : Type 0} → List ℕ → Named E → Named E
without_entry name [] = []
without_entry name (first ∷ others) =
    if bytes_eq name first.0 then without_entry name others else first ∷ without_entry name others

-- no name has two entries
abbrev pub EachOnce : {E : Type 0} → Named E → Type 0
EachOnce [] = Unit {0}
EachOnce (first ∷ others) = (entry_of first.0 others ≡ None) × EachOnce others

-- a table: its entries, and how many names may have one
pub record Table (E : Type 0) : Type 0 where
  pub entries : Named E
  pub cap : ℕ

-- a table is stored as the pair of its fields
abbrev pub table_code : {E : Type 0} → Coded E → Coded (Table E)
table_code {E} code =
    code_by (Named E × ℕ) (coded× (coded_list (coded× (coded_list coded_ℕ) code)) coded_ℕ) (λ t. (t.entries, t.cap))
    (λ p. record { entries = p.0; cap = p.1 }) (λ _. refl)

-- whether a name may be given an entry: it has one, or fewer names than may be have one
abbrev pub has_room : {E : Type 0} → List ℕ → Table E → Bool
has_room name t = is_some (entry_of name t.entries) || nat_lt (length t.entries) t.cap

-- what giving a name an entry answers: a limit where there is no room
abbrev pub admitted : {E : Type 0} → List ℕ → Table E → Result (Unit {0}) Limit
admitted name t = if has_room name t then Ok tt else Err Names

-- the table with these entries, if there is room for the name; without room it stays
abbrev pub with_entries_if_room : {E : Type 0} → List ℕ → Named E → Table E → Table E
with_entries_if_room name entries t = if has_room name t then record t { entries = entries } else t

-- the table once a name is given an entry, if there is room
abbrev pub put_into : {E : Type 0} → List ℕ → E → Table E → Table E
put_into name entry t = with_entries_if_room name (with_entry name entry t.entries) t

-- the table once a name's entry is taken away
abbrev pub removed_from : {E : Type 0} → List ℕ → Table E → Table E
removed_from name t = record t { entries = without_entry name t.entries }

-- a change of a name's entry, which it has, answered this, and made the table from another one
pub record Changed {E R : Type 0} (change : E → E × R → Type 0) (name : List ℕ) (old new : Table E) (answer : R) : Type 0 where
  pub was : E
  pub had : entry_of name old.entries ≡ Some was
  pub becomes : E
  pub made : change was (becomes, answer)
  pub put : new ≡ put_into name becomes old
