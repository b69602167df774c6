-- What is known of a page's stops.
use Rattle.std.specs.Prelude.{◌≡◌, ℕ, ◌<◌, ◌≤◌, List, length, Option, Some, None, slice_get, option_map, ◌==◌, if◌then◌else◌}
use Rattle.std.specs.List.{AllByRecursion}
use Rattle.roff_num.specs.declared.short_name.ShortName.{ShortName}
use Rattle.page_model.specs.declared.trap.Trap.{Trap}
use Rattle.page_model.specs.Stops.{next_stop}
use Rattle.page_model.specs.Springs.{first_met, is_on_top}
use Rattle.roff_pages.specs.declared.stops.Stop.{Stop}
use Rattle.roff_pages.specs.declared.stops.Beyond.{Beyond}
use Rattle.roff_pages.specs.declared.stops.Top.{Top}
use Rattle.roff_pages.specs.declared.stops.Stops.{Stops}
use Rattle.roff_pages.specs.Pages.FirstTraps.{first_index, is_lying}

-- the name of the trap of a place in turn, if it is there
abbrev pub name_at : ℕ → List Trap → Option ShortName
name_at index traps = option_map (λ (t : Trap). t.name) (slice_get traps index)

-- a place in turn is that of the first trap at a stop, where the stop lies before the page's end
abbrev pub IsFirstAt : ℕ → ℕ → List Trap → ℕ → Type 0
IsFirstAt lines stop traps index = stop < lines → index ≡ first_index (is_lying lines stop) traps

-- a stop is the next one beyond a place
pub record IsNext (lines from : ℕ) (traps : List Trap) (stop : Stop) : Type 0 where
  pub place : stop.place ≡ next_stop lines from traps
  pub trap : IsFirstAt lines stop.place traps stop.trap

-- stops are the next ones beyond their places
abbrev pub AreNext : ℕ → List Trap → List Beyond → Type 0
AreNext lines traps beyond = AllByRecursion (λ (b : Beyond). IsNext lines b.from traps b.stop) beyond

-- the stop that is kept at a trap's place in turn, if it was looked for from this place
abbrev pub stop_from : ℕ → Option Beyond → Option Stop
stop_from place None = None
stop_from place (Some b) = if b.from == place then Some b.stop else None

abbrev pub kept_stop : ℕ → ℕ → List Beyond → Option Stop
kept_stop trap place beyond = stop_from place (slice_get beyond trap)

-- what a page begins with
pub record BeginsWith (lines : ℕ) (traps : List Trap) (top : Top) : Type 0 where
  pub name : top.name ≡ first_met is_on_top lines traps
  pub stop : IsNext lines 0 traps top.stop

-- the same, if it is known
abbrev pub MayBeginWith : ℕ → List Trap → Option Top → Type 0
MayBeginWith lines traps None = Unit {0}
MayBeginWith lines traps (Some top) = BeginsWith lines traps top

-- All that is known holds of the traps and of the page's length: which trap lies at the stop, which stops lie beyond others, and
-- what a page begins with. No stops are kept but those beyond traps.
pub record AreKnown (lines stop : ℕ) (traps : List Trap) (known : Stops) : Type 0 where
  pub trap : IsFirstAt lines stop traps known.trap
  pub beyond : AreNext lines traps known.beyond.items
  pub few : length known.beyond.items ≤ length traps
  pub top : MayBeginWith lines traps known.top
