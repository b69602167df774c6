-- The page length, the page offset, the number of the next page, and ejecting a page (manual, section 3).
use Rattle.std.specs.Prelude.{ℕ, ℤ, ◌/◌, ◌==◌, max, min, pos, List, [], ◌∷◌, Result, Ok, Err, if◌then◌else◌}
use Rattle.roff_num.specs.Steps.{followed}
use Rattle.roff_num.specs.declared.num.Num.{Num}
use Rattle.roff_num.specs.declared.num.NumFault.{NumFault}
use Rattle.roff_num.specs.declared.num.Scale.TheVariants.{Units}
use Rattle.page_model.specs.Layout.{Layout}
use Rattle.page_model.specs.Queries.{is_diverting}
use Rattle.page_model.specs.declared.layout_event.LayoutEvent.TheVariants.{Eject, EjectTo, Length, Next, Offset}
use Rattle.run_model.specs.Numbers.{at_least_zero, height_beside, rounded_in_range, value_beside}
use Rattle.run_model.specs.Registers.{Known, in_heights, place_down}
use Rattle.run_model.specs.declared.event.PageEvent.TheVariants.{Page}
use Rattle.run_model.specs.declared.message.Message.TheVariants.{PageTooShort}
use Rattle.run_model.specs.Requests.Effects.{Response, Around, Ignored, happens, nothing, bad_number}
use Rattle.run_model.specs.Requests.Lengths.{length_wanted}
use Rattle.roff_num.specs.Ranges.{number}

-- the page has so many lines from now on; one that would have none is refused
abbrev pub lines_on_page : ℕ → Response
lines_on_page lines = if lines == 0 then Ignored (PageTooShort ∷ []) else happens [] (Page (Length lines) ∷ [])

-- the lines that a text sets: it is rounded, and not below 0
abbrev pub lines_set : Known → List ℕ → Result ℕ NumFault
lines_set known text =
    followed (height_beside (place_down known) (pos (in_heights known.layout.length)) text) (λ v.
    followed (rounded_in_range 40 v) (λ r. Ok (at_least_zero r / 40)))

-- they become the page length
abbrev pub page_of : Result ℕ NumFault → Response
page_of (Ok lines) = lines_on_page lines
page_of (Err fault) = bad_number

-- `pl`: the page length: 66 lines where none is given
abbrev pub page_length : Known → List (List ℕ) → Response
page_length known [] = lines_on_page 66
page_length known (text ∷ others) = page_of (lines_set known text)

-- lines stand so many columns further right from now on
abbrev pub offset_to : Result ℕ NumFault → Response
offset_to (Ok columns) = happens [] (Page (Offset columns) ∷ [])
offset_to (Err fault) = bad_number

-- `po`: the page offset: the previous one where none is given
abbrev pub page_offset : Known → List (List ℕ) → Response
page_offset known as_given = offset_to (length_wanted known.layout.offset known.layout.previous_offset as_given)

-- the page number that a text asks for: a sign in front adds to that of the page in force, or takes from it
abbrev pub page_asked : Known → List ℕ → Result ℤ NumFault
page_asked known text = value_beside known.layout.number.0 Units text

-- the next page gets it
abbrev pub next_numbered : Result ℤ NumFault → Response
next_numbered (Ok n) = happens [] (Page (Next (number n)) ∷ [])
next_numbered (Err fault) = bad_number

-- `pn`: the number of the next page; without an argument it is ignored
abbrev pub page_number : Known → List (List ℕ) → Response
page_number known [] = Ignored []
page_number known (text ∷ others) = next_numbered (page_asked known text)

-- the greatest count by which a page is asked for
abbrev pub greatest_page : ℕ
greatest_page = 4294967295

-- the page that is ejected: the one that was begun last, or else the first
abbrev pub page_ejected : Layout → ℕ
page_ejected L = max 1 (min L.begun greatest_page)

-- the page is ejected
abbrev pub ejected : Layout → Response
ejected L = if is_diverting L then nothing else happens [] (Page (Eject (page_ejected L)) ∷ [])

-- The same, and the next page gets this number. On a page that was begun it is set in front of the break, as the page that a macro
-- begins there, which the break springs, is the next one.
abbrev pub ejected_to : Num → Layout → Response
ejected_to n L =
    if is_diverting L then nothing
    else if L.begun == 0 then happens [] (Page (EjectTo (page_ejected L) n) ∷ [])
    else Around (Page (Next n)) (Page (EjectTo (page_ejected L) n))

-- the page is ejected for one of this number
abbrev pub ejected_by : Layout → Result ℤ NumFault → Response
ejected_by L (Ok n) = ejected_to (number n) L
ejected_by L (Err fault) = bad_number

-- `bp`: the page is ejected, where no diversion is open; the next one gets the number that is given
abbrev pub begin_page : Known → List (List ℕ) → Response
begin_page known [] = ejected known.layout
begin_page known (text ∷ others) = ejected_by known.layout (page_asked known text)
