-- The line of a picture that comes next can be laid (Lesk, "Tbl": Formatting).
use Rattle.std.specs.Prelude.{ℕ, suc, ◌<◌, List, Option}
use Rattle.tbl_format.specs.Format.{FormatRow}
use Rattle.tbl_layout.specs.Entries.{Element}
use Rattle.tbl_layout.specs.declared.data_lines.RuleSign.{RuleSign}
use Rattle.tbl_lines.specs.CellsLeft.{Left}
use Rattle.tbl_lines.specs.LinesLeft.{Beside}
use Rattle.tbl_lines.specs.PictureLines.{RuleLine, Sheet}
use Rattle.tbl_lines.specs.RowsWalked.{AreNarrow}
use Rattle.tbl_lines.specs.RulePlaces.{HavePlaces}
use Rattle.tbl_tall.specs.BandLaws.{NextPlaces}
use Rattle.tbl_tall.specs.TallRows.{Comes, KeptTall, RowStands, RuleComes, SignIs}

-- a line of rules comes, told whether it is one over the whole picture
pub record CanLayRule (bytes : List ℕ) (formats : List FormatRow) (s : Sheet) (t : KeptTall) (whole : Option RuleSign) : Type 0 where
  pub heights : List ℕ
  pub cells : List Left
  pub above : Beside
  pub elements : List Element
  pub line : RuleLine
  pub rest : List Element
  pub comes : Comes bytes formats s t heights cells above elements
  pub rule : RuleComes elements line rest
  pub sign : SignIs whole line
  pub places : HavePlaces formats s
  pub next : NextPlaces s elements
  pub narrow : AreNarrow s.columns
  pub wide : s.width < 4294967296

-- a line of a row comes
pub record CanLayRow (bytes : List ℕ) (s : Sheet) (t : KeptTall) : Type 0 where
  pub format : FormatRow
  pub cells : List Left
  pub more : ℕ
  pub stands : RowStands bytes s t format cells (suc more)
  pub narrow : AreNarrow s.columns
  pub wide : s.width < 4294967296
