-- Titles as they are read: three parts, one after another (manual, section 14).
--
-- In a part the byte of a glyph's blank stands for a blank, and 1 for the page number.
use Rattle.std.specs.Prelude.{ℕ, ◌+◌, List, [], ◌++◌, length}
use Rattle.roff_num.specs.declared.format.Format.{Format}
pub use Rattle.run_model.specs.declared.title.TitlePart.{TitlePart}
pub use Rattle.run_model.specs.declared.title.TitlePart.TheVariants.{Left, Centre, Right}

-- three parts, and the one to which bytes are added
pub record TitleText : Type 0 where
  pub part : TitlePart
  pub left : List ℕ
  pub centre : List ℕ
  pub right : List ℕ

-- a title that begins: its left part has these bytes
abbrev pub title_begun : List ℕ → TitleText
title_begun bytes = record { part = Left; left = bytes; centre = []; right = [] }

-- bytes are added to a part
abbrev pub added_to : TitlePart → List ℕ → TitleText → TitleText
added_to Left bytes t = record t { left = t.left ++ bytes }
added_to Centre bytes t = record t { centre = t.centre ++ bytes }
added_to Right bytes t = record t { right = t.right ++ bytes }

-- and to the one that is read
abbrev pub with_bytes : List ℕ → TitleText → TitleText
with_bytes bytes t = added_to t.part bytes t

-- the part behind another
abbrev pub part_behind : TitlePart → TitlePart
part_behind Left = Centre
part_behind Centre = Right
part_behind Right = Right

-- the part that is read has ended
abbrev pub part_ended : TitleText → TitleText
part_ended t = record t { part = part_behind t.part }

-- how many bytes a title has: all its parts together
abbrev pub title_length : TitleText → ℕ
title_length t = length t.left + length t.centre + length t.right

-- a title as it happens: its text, and the format of the page number that is put in
pub record TitleTold : Type 0 where
  pub text : TitleText
  pub format : Format
