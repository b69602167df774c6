-- What layouts do on lists of happenings, the oldest first: worked rows are computed with these.
use Rattle.std.specs.Prelude.{ℕ, Bool, ℤ, List, [], ◌∷◌, ◌++◌, Option, Some, None}
use Rattle.roff_num.specs.declared.short_name.ShortName.{ShortName}
use Rattle.page_model.specs.declared.trap.Trap.{Trap}
use Rattle.page_model.specs.Layout.{Layout, first_layout}
use Rattle.page_model.specs.Happenings.{Happening, Places, Titles}
use Rattle.page_model.specs.Turning.{with_event}
use Rattle.page_model.specs.Springs.{springs_on_page, goes_on}
use Rattle.page_model.specs.DeviceText.{device_text}
use Rattle.page_model.specs.DivertedText.{diverted_text}

-- the layout behind what happened
abbrev pub behind : List Happening → Layout → Layout
behind [] L = L
behind (x ∷ xs) L = behind xs (with_event x L)

-- how many pages were begun from the first layout on
abbrev pub begun : List Happening → ℕ
begun xs = (behind xs first_layout).begun

-- what was written, what went into diversions, and what sprang
abbrev pub written : List Happening → Layout → List ℕ
written [] L = []
written (x ∷ xs) L = device_text x L ++ written xs (with_event x L)

abbrev pub diverted : List Happening → Layout → List ℕ
diverted [] L = []
diverted (x ∷ xs) L = diverted_text x L ++ diverted xs (with_event x L)

abbrev pub sprung : List Happening → Layout → List (Option ShortName)
sprung [] L = []
sprung (x ∷ xs) L = springs_on_page x L ∷ sprung xs (with_event x L)

-- which of them go on behind what they spring
abbrev pub going_on : List Happening → Layout → List Bool
going_on [] L = []
going_on (x ∷ xs) L = goes_on x L ∷ going_on xs (with_event x L)

-- a line of this text, and one with blank lines behind it
abbrev pub line : List ℕ → Happening
line text = Places (record { text = text; lead = 0; spare = 0; gaps = 0; after = 0 })

abbrev pub spaced_line : List ℕ → ℕ → Happening
spaced_line text after = Places (record { text = text; lead = 0; spare = 0; gaps = 0; after = after })

-- a title of these parts and this length, on a page of this number
abbrev pub title : List ℕ → List ℕ → List ℕ → ℕ → List ℕ → Happening
title left centre right length number =
    Titles (record { left = left; centre = centre; right = right; length = length; number = number })

-- two names
abbrev pub footer : ShortName
footer = record { first = 70; second = Some 79 }

abbrev pub header : ShortName
header = record { first = 72; second = None }

-- traps with them
abbrev pub footer_at : ℤ → Trap
footer_at place = record { place = place; name = footer }

abbrev pub header_at : ℤ → Trap
header_at place = record { place = place; name = header }
