-- What the code keeps of a layout: boxes are counted.
use Rattle.std.specs.Prelude.{◌≡◌, ℕ, ◌+◌, ◌-◌, ◌*◌, ◌<◌, ◌≤◌, ◌^◌, Bool, true, false, List, [], ◌∷◌, reverse, length, Option, Some, None, vec_capacity}
use Rattle.roff_num.specs.declared.num.Num.{Num}
use Rattle.page_model.specs.declared.trap.Trap.{Trap}
use Rattle.roff_pages.specs.declared.open_diversion.OpenDiversion.{OpenDiversion}
use Rattle.roff_pages.specs.declared.pages.Pages.TheInside.{Inside}
use Rattle.page_model.specs.Stops.{next_stop}
use Rattle.roff_pages.specs.Pages.KnownStops.{AreKnown}

-- as in a layout, but for the place on the page and the open diversions, in which boxes are counted; and how many traps there
-- may be, and open diversions
pub record Kept : Type 0 where
  pub ranges : List (Num × Num)
  pub next : Option Num
  pub begun : ℕ
  pub number : Num
  pub length : ℕ
  pub offset : ℕ
  pub previous_offset : ℕ
  pub traps : List Trap
  pub place : ℕ
  pub is_listed : Bool
  pub no_space : Bool
  pub diversions : List OpenDiversion
  pub height : ℕ
  pub width : ℕ
  pub is_closing : Bool
  pub is_over : Bool
  pub most_traps : ℕ
  pub most_diversions : ℕ
  pub written : ℕ
  pub output : ℕ

-- the open diversions, the innermost first
abbrev pub open_diversions : Option OpenDiversion → List OpenDiversion → List OpenDiversion
open_diversions None outer = []
open_diversions (Some d) outer = d ∷ reverse outer

-- what the fields keep
abbrev pub kept_by : Inside → Kept
kept_by a = record {
  ranges = a.ranges.items;
  next = a.next;
  begun = a.begun;
  number = a.number;
  length = a.length;
  offset = a.offset;
  previous_offset = a.previous_offset;
  traps = a.traps.items;
  place = a.place;
  is_listed = a.is_listed;
  no_space = a.no_space;
  diversions = open_diversions a.innermost a.outer.items;
  height = a.height;
  width = a.width;
  is_closing = a.is_closing;
  is_over = a.is_over;
  most_traps = a.most_traps;
  most_diversions = a.most_diversions;
  written = a.written;
  output = a.output;
}

-- Counts are within what is counted, the stop is the next one beyond the place, with what is known of it, and there is room for
-- what may be there. Where no diversion is open none is left. Lines that may be placed freely stand on a written page in front
-- of the stop, without no-space mode, and as many whole blocks are within the limit on the output.
pub record IsSound (a : Inside) : Type 0 where
  pub begun : a.begun ≤ 2 ^ 32
  pub short : a.length < 2 ^ 32
  pub place : a.place ≤ 2 ^ 33
  pub stop : a.stop ≡ next_stop a.length a.place a.traps.items
  pub known : AreKnown a.length a.stop a.traps.items a.stops
  pub traps : length a.traps.items ≤ a.most_traps
  pub traps_room : a.most_traps ≤ vec_capacity a.traps
  pub stops_room : a.most_traps ≤ vec_capacity a.stops.beyond
  pub outer : length a.outer.items ≤ a.most_diversions
  pub outer_room : a.most_diversions ≤ vec_capacity a.outer
  pub free : a.free ≤ (a.stop - a.place) - 1
  pub room : a.written + 8192 * a.free ≤ a.output
  pub listed : 0 < a.free → a.is_listed ≡ true
  pub mode : 0 < a.free → a.no_space ≡ false
  pub none_open : a.innermost ≡ None → a.outer.items ≡ []
