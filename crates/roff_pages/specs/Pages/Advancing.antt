-- A page with more boxes: it may end, and something may spring. A diversion with more boxes.
use Rattle.std.specs.Prelude.{◌-◌, ℕ, ◌+◌, not, List, ◌++◌, length, Option, None, if◌then◌else◌, ◌==◌}
use Rattle.roff_num.specs.declared.short_name.ShortName.{ShortName}
use Rattle.page_model.specs.Layout.{Box, Layout, page_place}
use Rattle.page_model.specs.Turning.{in_innermost, turned_if_full}
use Rattle.page_model.specs.Stops.{next_stop}
use Rattle.roff_pages.specs.Pages.Kept.{Kept}
use Rattle.page_model.specs.Springs.{first_met, is_on_top, is_passed, passed_in}
use Rattle.page_model.specs.Queries.{place_now}

-- the page with boxes more, before it ends
abbrev pub with_lines : List Box → Layout → Layout
with_lines boxes L = record L { boxes = boxes ++ L.boxes }

-- what springs where the layout has become another one, and the page behind a place has come to another place: nothing where it
-- is over, and else what is met at the beginning of a page that began, or what was passed
abbrev pub sprung_on : Layout → Layout → ℕ → ℕ → Option ShortName
sprung_on L M from to =
    if M.is_over then None
    else if not (M.begun == L.begun) then first_met is_on_top M.length M.traps
    else first_met (is_passed from to) L.length L.traps

-- how far the next stop is
abbrev pub way_on : Kept → ℕ
way_on k = next_stop k.length k.place k.traps - k.place

-- what springs behind the boxes
abbrev pub sprung_by : List Box → Layout → Option ShortName
sprung_by boxes L = sprung_on L (turned_if_full (with_lines boxes L)) (page_place L) (page_place L + length boxes)

-- with boxes in the innermost open diversion
abbrev pub with_diverted : List Box → Layout → Layout
with_diverted boxes L = record L { diversions = in_innermost boxes L.diversions }

-- what springs behind them: what is passed there, unless the layout is over
abbrev pub sprung_diverted : List Box → Layout → Option ShortName
sprung_diverted boxes L = if L.is_over then None else passed_in L.diversions (place_now L) (place_now L + length boxes) L
