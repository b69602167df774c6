-- What a happening adds to the text of the innermost open diversion (manual, section 7.3).
use Rattle.std.specs.Prelude.{ℕ, List, [], ◌∷◌, ◌++◌, if◌then◌else◌}
use Rattle.page_model.specs.Diverted.{diverted}
use Rattle.page_model.specs.Layout.{Box, Lined, Empty, Layout}
use Rattle.page_model.specs.Happenings.{Happening}
use Rattle.page_model.specs.Puts.{appended}
use Rattle.page_model.specs.Stops.{is_diverted}

-- a box as a line of input, which begins no control line
abbrev pub diverted_line : Box → List ℕ
diverted_line (Lined text) = diverted text
diverted_line Empty = 10 ∷ []

-- boxes, the newest first, as lines of input in order
abbrev pub diverted_lines : List Box → List ℕ
diverted_lines [] = []
diverted_lines (b ∷ boxes) = diverted_lines boxes ++ diverted_line b

-- what a happening adds
abbrev pub diverted_text : Happening → Layout → List ℕ
diverted_text x L = if is_diverted x L then diverted_lines (appended x L) else []
