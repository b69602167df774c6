-- The first trap that passes a test, by its place in turn.
use Rattle.std.specs.Prelude.{◌≡◌, ℕ, suc, Bool, false, List, [], ◌∷◌, ◌++◌, Option, Some, None, ◌==◌, if◌then◌else◌}
use Rattle.std.specs.List.{list_any}
use Rattle.roff_pages.specs.declared.sought.Sought.{Sought}
use Rattle.roff_pages.specs.declared.sought.Sought.TheVariants.{Given, Named, Lying}
use Rattle.page_model.specs.declared.trap.Trap.{Trap}
use Rattle.page_model.specs.Stops.{place_of}
use Rattle.page_model.specs.Turning.{is_given, is_named}

-- its place in turn, or how many traps there are
abbrev pub first_index : (Trap → Bool) → List Trap → ℕ
first_index is_it [] = 0
first_index is_it (t ∷ traps) = if is_it t then 0 else suc (first_index is_it traps)

-- The traps from one in turn on, where none before it passes a test.
pub record NoneBefore (is_it : Trap → Bool) (traps rest : List Trap) : Type 0 where
  pub front : List Trap
  pub is : traps ≡ front ++ rest
  pub none : list_any is_it front ≡ false

-- whether a trap lies at a place of a page of this length
abbrev pub is_at : ℕ → Option ℕ → Bool
is_at place None = false
is_at place (Some n) = n == place

abbrev pub is_lying : ℕ → ℕ → Trap → Bool
is_lying lines place t = is_at place (place_of lines t.place)

-- whether a trap is one that is sought
abbrev pub is_sought : Sought → Trap → Bool
is_sought (Given place) = is_given place
is_sought (Named name) = is_named name
is_sought (Lying lines place) = is_lying lines place
