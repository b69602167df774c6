-- Bars that meet on a line of rules have their places, as those of the lines beside it have.
use Rattle.std.proofs.Common.{◌≡◌, ℕ, suc, List, ◌∷◌, drop, length}
use Rattle.tbl_layout.specs.LayoutLaws.{StandInOrder}
use Rattle.tbl_layout.specs.declared.columns.Column.{Column}
use Rattle.tbl_lines.specs.LinesLeft.{Beside, Over, bars_met}
use Rattle.tbl_lines.specs.PictureLines.{RuleLine, Sheet}
use Rattle.tbl_tall.specs.BandLaws.{HasLinePlaces}
use Rattle.tbl_line_cells.specs.RulesDrawn.{FitBetween}
use Rattle.tbl_tall.specs.TallRows.{BarsFit}
use Rattle.tbl_tall.proofs.BarsFit.{own-fits}
use Rattle.tbl_tall.proofs.BarsMet.{fit-given}

pub rule-fits : (s : Sheet) (line : RuleLine) (all : List Over) (above below : Beside) → StandInOrder s.bars s.width s.columns → HasLinePlaces s line
    → BarsFit s above → BarsFit s below → (at : ℕ) (c d : Column) (others : List Column) → drop at s.columns ≡ c ∷ d ∷ others
    → FitBetween (bars_met s.bars (length s.columns) line all above below (suc at)) c d
rule-fits s line all above below order own over under =
    fit-given s.bars s.columns line all above below order.between (λ at few. own-fits s line (suc at) own) (λ at few. over (suc at) few)
    (λ at few. under (suc at) few)
