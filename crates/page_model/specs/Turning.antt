-- The layout behind a happening, and where a page ends (manual, sections 3 and 7.4).
use Rattle.std.specs.Prelude.{ℕ, ◌+◌, Bool, true, false, ◌&&◌, ◌||◌, ℤ, pos, ◌+ℤ◌, List, [], ◌∷◌, ◌++◌, length, max, nat_le, nat_lt, int_lt, int_le, Option, Some, None, if◌then◌else◌, ◌==◌}
use Rattle.std.specs.List.{list_any}
use Rattle.std.specs.Ordering.{int_eq}
use Rattle.roff_num.specs.declared.num.Num.{Num}
use Rattle.roff_num.specs.declared.short_name.ShortName.{ShortName}
use Rattle.page_model.specs.Glyphs.{text_width}
use Rattle.page_model.specs.Words.{is_empty}
use Rattle.page_model.specs.declared.trap.Trap.{Trap}
use Rattle.page_model.specs.Layout.{Box, Lined, Empty, Diversion, Layout, page_place, opened}
use Rattle.page_model.specs.Happenings.{LayoutEvent, Happening, Does, Places, Titles, is_eject, ListPages, Begin, Close, Space, Need, Eject, EjectTo, EjectOn, EjectLast, Length, Offset, Next, Number, NoSpace, Plant, Uproot, MoveTrap, RemoveTrap, DiversionTrap, NoDiversionTrap, Divert, EndDivert}
use Rattle.page_model.specs.Stops.{is_diverted}
use Rattle.page_model.specs.Puts.{Put, puts, appended}

-- a number and one more, up to the greatest one
abbrev pub one_more : Num → Num
one_more n = if int_lt n.0 (pos 2147483647) then record { 0 = n.0 +ℤ pos 1 } else n

-- the number of the next page: the one that was set, or one more
abbrev pub number_behind : Option Num → Num → Num
number_behind None number = one_more number
number_behind (Some next) number = next

-- whether a number lies in a range
abbrev pub is_in_range : Num → Num × Num → Bool
is_in_range n range = int_le range.0.0 n.0 && int_le n.0 range.1.0

-- whether a page of this number is written: it lies in a range, or there is none
abbrev pub is_in_ranges : List (Num × Num) → Num → Bool
is_in_ranges ranges n = is_empty ranges || list_any (is_in_range n) ranges

-- a page begins
abbrev pub page_begun : Layout → Layout
page_begun L = record L {
  begun = L.begun + 1;
  number = number_behind L.next L.number;
  next = None;
  boxes = [];
  is_listed = is_in_ranges L.ranges (number_behind L.next L.number);
}

-- a page ends: the next one begins, but in the closing phase
abbrev pub turned : Layout → Layout
turned L = if L.is_closing then record L { is_over = true } else page_begun L

-- a page ends whose place is at its length, or beyond it
abbrev pub turned_if_full : Layout → Layout
turned_if_full L = if nat_le L.length (page_place L) then turned L else L

-- no-space mode behind boxes: they end it, but those of an eject
abbrev pub no_space_behind : Bool → List Box → Bool → Bool
no_space_behind by_eject boxes no_space = no_space && (by_eject || is_empty boxes)

-- with boxes in a diversion
abbrev pub in_diversion : List Box → Diversion → Diversion
in_diversion boxes d = record d {
  boxes = boxes ++ d.boxes;
  no_space = no_space_behind false boxes d.no_space;
}

-- with boxes in the innermost of open diversions
abbrev pub in_innermost : List Box → List Diversion → List Diversion
in_innermost boxes [] = []
in_innermost boxes (d ∷ ds) = in_diversion boxes d ∷ ds

-- with boxes where a happening puts them: in a diversion, or on the page
abbrev pub with_boxes : Happening → List Box → Layout → Layout
with_boxes x boxes L = record L {
  boxes = if is_diverted x L then L.boxes else boxes ++ L.boxes;
  no_space = if is_diverted x L then L.no_space else no_space_behind (is_eject x) boxes L.no_space;
  diversions = if is_diverted x L then in_innermost boxes L.diversions else L.diversions;
}

-- the number that the next page gets: an eject may set it
abbrev pub next_of_event : LayoutEvent → Option Num → Option Num
next_of_event (EjectTo asked n) next = Some n
next_of_event (_) next = next

-- the same of a happening
abbrev pub next_behind : Happening → Option Num → Option Num
next_behind (Does e) next = next_of_event e next
next_behind (Places line) next = next
next_behind (Titles t) next = next

-- a page ends where its place has come to its length, unless what was put is in a diversion: that ends no page
abbrev pub turned_unless : Bool → Layout → Layout
turned_unless diverted L = if diverted then L else turned_if_full L

-- behind what is put
abbrev pub with_put : Happening → List Box → Layout → Layout
with_put x boxes L = turned_unless (is_diverted x L) (with_boxes x boxes (record L { next = next_behind x L.next }))

-- whether two names are the same
abbrev pub same_second : Option ℕ → Option ℕ → Bool
same_second None None = true
same_second (Some m) (Some n) = m == n
same_second (_) (_) = false

abbrev pub same_name : ShortName → ShortName → Bool
same_name m n = m.first == n.first && same_second m.second n.second

-- whether a trap was given this place, or has this name
abbrev pub is_given : ℤ → Trap → Bool
is_given place t = int_eq t.place place

abbrev pub is_named : ShortName → Trap → Bool
is_named name t = same_name t.name name

-- with the first trap that passes a test changed
abbrev pub with_first : (Trap → Bool) → (Trap → Trap) → List Trap → List Trap
with_first is_it change [] = []
with_first is_it change (t ∷ traps) = if is_it t then change t ∷ traps else t ∷ with_first is_it change traps

-- without it
abbrev pub without_first : (Trap → Bool) → List Trap → List Trap
without_first is_it [] = []
without_first is_it (t ∷ traps) = if is_it t then traps else t ∷ without_first is_it traps

-- with a trap planted: in the place of the first that was given the same place, or else as the last
abbrev pub with_trap : Trap → List Trap → List Trap
with_trap new traps =
    if list_any (is_given new.place) traps then with_first (is_given new.place) (λ t. new) traps else traps ++ new ∷ []

-- a trap that is moved
abbrev pub moved_to : ℤ → Trap → Trap
moved_to place t = record t { place = place }

-- no-space mode of the innermost of open diversions
abbrev pub with_mode : Bool → List Diversion → List Diversion
with_mode on [] = []
with_mode on (d ∷ ds) = record d { no_space = on } ∷ ds

-- the trap of the innermost open diversion
abbrev pub with_diversion_trap : Option Trap → List Diversion → List Diversion
with_diversion_trap trap [] = []
with_diversion_trap trap (d ∷ ds) = record d { trap = trap } ∷ ds

-- the width of what takes up a line
abbrev pub box_width : Box → ℕ
box_width (Lined text) = text_width text
box_width Empty = 0

-- the greatest width
abbrev pub greatest_width : List Box → ℕ
greatest_width [] = 0
greatest_width (b ∷ boxes) = max (box_width b) (greatest_width boxes)

-- the diversions behind the innermost one
abbrev pub without_innermost : List Diversion → List Diversion
without_innermost [] = []
without_innermost (d ∷ ds) = ds

-- the height and the width of the innermost one, or those that were told before where none is open
abbrev pub innermost_height : List Diversion → ℕ → ℕ
innermost_height [] height = height
innermost_height (d ∷ ds) height = length d.boxes

abbrev pub innermost_width : List Diversion → ℕ → ℕ
innermost_width [] width = width
innermost_width (d ∷ ds) width = greatest_width d.boxes

-- so many ranges of pages are listed at most
abbrev pub most_ranges : ℕ
most_ranges = 32

-- with a range more, which is ignored where as many are listed
abbrev pub with_range : Num × Num → List (Num × Num) → List (Num × Num)
with_range range ranges = if nat_lt (length ranges) most_ranges then ranges ++ range ∷ [] else ranges

-- behind an event that puts nothing
abbrev pub without_put : LayoutEvent → Layout → Layout
without_put (ListPages first last) L = record L { ranges = with_range (first, last) L.ranges }
without_put Begin L = page_begun L
without_put Close L = record L { diversions = []; is_closing = true }
without_put (Space k) L = L
without_put (Need k) L = L
without_put (Eject asked) L = L
without_put (EjectTo asked number) L = L
without_put (EjectOn asked) L = L
without_put EjectLast L = record L { is_over = true }
without_put (Length k) L = record L { length = k }
without_put (Offset k) L = record L { offset = k; previous_offset = L.offset }
without_put (Next n) L = record L { next = Some n }
without_put (Number n) L = record L { number = n }
without_put (NoSpace on) L = record L {
  no_space = if is_empty L.diversions then on else L.no_space;
  diversions = with_mode on L.diversions;
}
without_put (Plant t) L = record L { traps = with_trap t L.traps }
without_put (Uproot place) L = record L { traps = without_first (is_given place) L.traps }
without_put (MoveTrap name place) L = record L { traps = with_first (is_named name) (moved_to place) L.traps }
without_put (RemoveTrap name) L = record L { traps = without_first (is_named name) L.traps }
without_put (DiversionTrap trap) L = record L { diversions = with_diversion_trap (Some trap) L.diversions }
without_put NoDiversionTrap L = record L { diversions = with_diversion_trap None L.diversions }
without_put (Divert name appends) L = record L { diversions = opened name appends ∷ L.diversions }
without_put EndDivert L = record L {
  diversions = without_innermost L.diversions;
  height = innermost_height L.diversions L.height;
  width = innermost_width L.diversions L.width;
}

-- behind a happening that puts nothing
abbrev pub unput : Happening → Layout → Layout
unput (Does e) L = without_put e L
unput (Places line) L = L
unput (Titles t) L = L

-- behind a happening, told whether it puts something
abbrev pub behind_put : Happening → Option Put → List Box → Layout → Layout
behind_put x None boxes L = unput x L
behind_put x (Some p) boxes L = with_put x boxes L

-- the layout behind a happening
abbrev pub with_event : Happening → Layout → Layout
with_event x L = behind_put x (puts x L) (appended x L) L
