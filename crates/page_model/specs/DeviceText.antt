-- What a happening writes to the device: the boxes that it puts on a page that is written (manual, section 3).
use Rattle.std.specs.Prelude.{ℕ, not, ◌||◌, List, [], ◌∷◌, ◌++◌, if◌then◌else◌}
use Rattle.page_model.specs.Columns.{device_line}
use Rattle.page_model.specs.Layout.{Box, Lined, Empty, Layout}
use Rattle.page_model.specs.Happenings.{Happening}
use Rattle.page_model.specs.Stops.{is_diverted}
use Rattle.page_model.specs.Puts.{appended}

-- a box as it is written behind the page offset, without blanks at its end
abbrev pub box_line : ℕ → Box → List ℕ
box_line offset (Lined text) = device_line offset text
box_line offset Empty = 10 ∷ []

-- boxes, the newest first, as they are written in order
abbrev pub device_lines : ℕ → List Box → List ℕ
device_lines offset [] = []
device_lines offset (b ∷ boxes) = device_lines offset boxes ++ box_line offset b

-- what a happening writes
abbrev pub device_text : Happening → Layout → List ℕ
device_text x L = if is_diverted x L || not L.is_listed then [] else device_lines L.offset (appended x L)
