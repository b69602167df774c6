-- What is left of a title that is taken piece by piece.
use Rattle.std.specs.Prelude.{ℕ, List, ◌++◌}
use Rattle.page_model.specs.Columns.{spaces, trimmed}
use Rattle.page_bytes.specs.declared.title.TitleLine.{TitleLine}
use Rattle.page_bytes.specs.declared.title.TitlePieces.TheInside.{Inside}
use Rattle.page_bytes.specs.declared.title_part.PartText.{PartText}
use Rattle.page_model.specs.Titles.{Title, part_text}

-- the title that the code has
abbrev pub title_of : TitleLine → Title
title_of t = record { left = t.left.now; centre = t.centre.now; right = t.right.now; length = t.length; number = t.number.now }

-- what is left of a part: blanks in front of it, and its text
abbrev pub part_left : PartText → List ℕ
part_left a = spaces a.blanks ++ part_text a.number.now a.part.now

-- what is left of a title, without trailing blanks
abbrev pub title_left : Inside → List ℕ
title_left a = trimmed (part_left a.left ++ (part_left a.centre ++ part_left a.right))
