-- What is left of a title that is taken byte by byte.
use Rattle.std.specs.Prelude.{ℕ, List, ◌++◌, replicate}
use Rattle.page_model.specs.Columns.{spaces}
use Rattle.page_model.specs.Diverted.{escaped}
use Rattle.page_bytes.specs.declared.title_bytes.PartsText.{PartsText}
use Rattle.page_bytes.specs.declared.title_bytes.TitleBytes.{TitleBytes}
use Rattle.page_bytes.specs.declared.diverted_title.DivertedTitle.TheInside.{Inside}
use Rattle.page_bytes.specs.TitleLeft.{part_left}

-- what is left of its parts
abbrev pub parts_left : PartsText → List ℕ
parts_left a = part_left a.left ++ (part_left a.centre ++ part_left a.right)

-- what is left of it as it is printed, trailing blanks too, and of its newline
abbrev pub bytes_of_title : TitleBytes → List ℕ
bytes_of_title a = spaces a.blanks ++ (a.glyphs.now ++ (parts_left a.parts ++ replicate a.newlines 10))

-- and as a diversion keeps it
abbrev pub diverted_left : Inside → List ℕ
diverted_left a = a.due.now ++ escaped (bytes_of_title a.printed)
