-- Where spacing stops: at a trap or at the page's end (manual, section 7.5).
use Rattle.std.specs.Prelude.{ℕ, ◌+◌, ◌-◌, min, Bool, not, ◌||◌, ℤ, pos, negsuc, List, [], ◌∷◌, length, nat_lt, Option, Some, None, if◌then◌else◌}
use Rattle.page_model.specs.Words.{is_empty}
use Rattle.page_model.specs.declared.trap.Trap.{Trap}
use Rattle.page_model.specs.Layout.{Diversion, Layout, page_place}
use Rattle.page_model.specs.Happenings.{Happening, is_eject}

-- where a place as it was given lies on a page of this length: below 0 it counts from the page's end. It lies nowhere above the
-- page's beginning, and nowhere at its end or behind it.
abbrev pub place_of : ℕ → ℤ → Option ℕ
place_of length (pos n) = if nat_lt n length then Some n else None
place_of length (negsuc n) = if nat_lt n length then Some (length - (n + 1)) else None

-- the nearer stop: a trap's place, if it lies beyond a place, or another stop
abbrev pub nearer_stop : ℕ → Option ℕ → ℕ → ℕ
nearer_stop place None stop = stop
nearer_stop place (Some n) stop = if nat_lt place n then min n stop else stop

-- the next stop beyond a place of a page: a trap's place, or the page's end
abbrev pub next_stop : ℕ → ℕ → List Trap → ℕ
next_stop length place [] = length
next_stop length place (t ∷ traps) = nearer_stop place (place_of length t.place) (next_stop length place traps)

-- the stop that a diversion's trap is, if it lies beyond a place
abbrev pub stop_at : ℕ → ℤ → Option ℕ
stop_at place (pos n) = if nat_lt place n then Some n else None
stop_at place (negsuc n) = None

-- the same of a trap that may not be there
abbrev pub trap_stop : ℕ → Option Trap → Option ℕ
trap_stop place None = None
trap_stop place (Some t) = stop_at place t.place

-- where something is put: the place, the next stop, and whether no-space mode is on
pub record Target : Type 0 where
  pub place : ℕ
  pub stop : Option ℕ
  pub no_space : Bool

-- the page
abbrev pub page_target : Layout → Target
page_target L = record {
  place = page_place L;
  stop = Some (next_stop L.length (page_place L) L.traps);
  no_space = L.no_space;
}

-- a diversion
abbrev pub diversion_target : Diversion → Target
diversion_target d = record {
  place = length d.boxes;
  stop = trap_stop (length d.boxes) d.trap;
  no_space = d.no_space;
}

-- the innermost open diversion, or the page
abbrev pub innermost : List Diversion → Target → Target
innermost [] page = page
innermost (d ∷ ds) page = diversion_target d

-- the target of what happens: an eject's is the page
abbrev pub target : Happening → Layout → Target
target x L = if is_eject x then page_target L else innermost L.diversions (page_target L)

-- whether a happening puts its boxes in a diversion
abbrev pub is_diverted : Happening → Layout → Bool
is_diverted x L = not (is_eject x || is_empty L.diversions)
