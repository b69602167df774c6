-- What holds of columns that have room for entries of several columns (Lesk, "Tbl": Format).
use Rattle.std.specs.Prelude.{ℕ, ◌+◌, ◌<◌, ◌≤◌, List, [], ◌∷◌, length, map, take, drop, Contains, ⊤}
use Rattle.tbl_format.specs.declared.format.Asked.{Asked}
use Rattle.tbl_layout.specs.Columns.{columns_from, gaps, total, with_widths}
use Rattle.tbl_layout.specs.Entries.{Element}
use Rattle.tbl_layout.specs.Spans.{Wide, all_fitted, all_wide, columns_laid, filled}
use Rattle.tbl_layout.specs.declared.bars.Bars.{Bars}
use Rattle.tbl_layout.specs.declared.columns.Column.{Column}

-- as many columns, and none of them is narrower
abbrev pub AreNoNarrower : List Column → List Column → Type 0
AreNoNarrower [] [] = ⊤
AreNoNarrower [] (d ∷ wider) = ⊥
AreNoNarrower (c ∷ columns) [] = ⊥
AreNoNarrower (c ∷ columns) (d ∷ wider) = (c.width ≤ d.width) × AreNoNarrower columns wider

-- how much of the page the columns of an entry have, with the separations between
abbrev pub room_of : Bars → List Asked → Wide → List Column → ℕ
room_of bars asked w columns =
    total (map (λ c. c.width) (take w.count (drop w.from columns))) + total (gaps bars (take w.count (drop w.from asked)))

-- each of some entries that lies in these columns has room in them
pub record HaveSpace (bars : Bars) (asked : List Asked) (entries : List Wide) (columns : List Column) : Type 0 where
  pub each : (w : Wide) → Contains entries w → 0 < w.count → w.from + w.count ≤ length columns → w.width ≤ room_of bars asked w columns

-- where entries of several columns get room, no column becomes narrower, and each of them has room once all have got it
pub record AreFitted (bars : Bars) (asked : List Asked) (entries : List Wide) (columns : List Column) : Type 0 where
  pub no_narrower : AreNoNarrower columns (all_fitted bars asked entries columns)
  pub space : HaveSpace bars asked entries (all_fitted bars asked entries columns)

-- the columns of a table are no narrower than their own entries need, and its entries of several columns have room in them
pub record HoldAll (bars : Bars) (line_length : ℕ) (asked : List Asked) (elements : List Element) : Type 0 where
  pub own : AreNoNarrower (with_widths asked (columns_from (filled bars line_length asked elements) 0 asked)) (columns_laid bars line_length asked elements)
  pub wide : HaveSpace bars asked (all_wide (filled bars line_length asked elements)) (columns_laid bars line_length asked elements)
