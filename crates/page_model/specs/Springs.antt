-- What springs (manual, sections 7.4 and 7.5).
use Rattle.std.specs.Prelude.{ℕ, ◌+◌, Bool, false, not, ◌&&◌, List, [], ◌∷◌, length, nat_lt, nat_le, Option, Some, None, is_some, if◌then◌else◌, ◌==◌}
use Rattle.roff_num.specs.declared.short_name.ShortName.{ShortName}
use Rattle.page_model.specs.declared.trap.Trap.{Trap}
use Rattle.page_model.specs.Layout.{Diversion, Layout}
use Rattle.page_model.specs.Happenings.{Happening, is_eject}
use Rattle.page_model.specs.Stops.{place_of, stop_at, target}
use Rattle.page_model.specs.Puts.{appended, puts}
use Rattle.page_model.specs.Turning.{with_event}

-- whether a trap lies beyond a place, and not beyond another one
abbrev pub is_passed : ℕ → ℕ → Option ℕ → Bool
is_passed from to None = false
is_passed from to (Some place) = nat_lt from place && nat_le place to

-- whether it lies at a page's beginning
abbrev pub is_on_top : Option ℕ → Bool
is_on_top None = false
is_on_top (Some place) = place == 0

-- the first planted of the traps of a page that is met so
abbrev pub first_met : (Option ℕ → Bool) → ℕ → List Trap → Option ShortName
first_met is_met length [] = None
first_met is_met length (t ∷ traps) = if is_met (place_of length t.place) then Some t.name else first_met is_met length traps

-- a diversion's trap, if it is passed
abbrev pub diversion_trap_passed : ℕ → ℕ → Option Trap → Option ShortName
diversion_trap_passed from to None = None
diversion_trap_passed from to (Some t) = if is_passed from to (stop_at from t.place) then Some t.name else None

-- what is passed in the innermost open diversion, or on the page
abbrev pub passed_in : List Diversion → ℕ → ℕ → Layout → Option ShortName
passed_in [] from to L = first_met (is_passed from to) L.length L.traps
passed_in (d ∷ ds) from to L = diversion_trap_passed from to d.trap

-- what is passed where a happening puts its boxes
abbrev pub passed : Happening → ℕ → ℕ → Layout → Option ShortName
passed x from to L = if is_eject x then first_met (is_passed from to) L.length L.traps else passed_in L.diversions from to L

-- what springs behind a happening: where a page begins, the first planted trap at its beginning, and else the first planted
-- that was passed; nothing where the layout is over
abbrev pub springs_on_page : Happening → Layout → Option ShortName
springs_on_page x L =
    let behind = with_event x L in
    let from = (target x L).place in
    if behind.is_over then None
    else if not (behind.begun == L.begun) then first_met is_on_top behind.length behind.traps
    else passed x from (from + length (appended x L)) L

-- whether an eject goes on behind what it springs: its page hasn't ended
abbrev pub goes_on : Happening → Layout → Bool
goes_on x L = is_eject x && (is_some (puts x L) && ((with_event x L).begun == L.begun && not (with_event x L).is_over))
