-- Steps on a line of a picture with cells of several rows: it goes on, or ends.
use Rattle.std.proofs.Common.{◌≡◌, ℕ, Bool, true, false, List, drop, refl, sym, ap, subst, ◌∙◌}
use Rattle.tbl_format.specs.Format.{FormatRow}
use Rattle.tbl_kept.specs.Rows.{KeptRows}
use Rattle.tbl_layout.specs.declared.bars.Bars.{Bars}
use Rattle.tbl_lines.specs.PictureLines.{Sheet}
use Rattle.tbl_giving.proofs.LayNext.{rule-is-next}
use Rattle.tbl_giving.proofs.LineStepsMade.{ends-step, off-line}
use Rattle.tbl_giving.specs.LinesWalked.{CanGo, HasCome, KeptLineByLine, LineGone, LineSteps, LineUnderWay, PartGone, StandsAtRule, UnderWayIf, coming, is_on_line, row_laid, sheet_by}
use Rattle.tbl_giving.specs.PartsToCome.{ToCome, all_lines, behind_part}
use Rattle.tbl_picture.specs.Walks.{KeptWalk, RowEnds}
use Rattle.tbl_giving.specs.declared.line_by_line.Place.{Place}
use Rattle.tbl_giving.specs.declared.line_by_line.Place.TheVariants.{OnRule}
use Rattle.tbl_giving.specs.declared.line_by_line.RuleAt.{RuleAt}
use Rattle.tbl_pieces.specs.PieceQueue.{KeptPieces}
use Rattle.tbl_tall.specs.TallRows.{RuleIsNext}

-- nothing is under way off a line
off-under : (t : Bool) (bytes : List ℕ) (g : KeptLineByLine) (w : KeptWalk) → t ≡ false → UnderWayIf t bytes g w
off-under true bytes g w off = absurd (cc)
off-under false bytes g w off = tt

module _ {bytes : List ℕ} {formats : List FormatRow} {rows : KeptRows} {g : KeptLineByLine} where
  pub under-of : {w : KeptWalk} → is_on_line g.place ≡ true → CanGo bytes formats rows g w → LineUnderWay bytes g w
  under-of {w} on can = subst (λ (t : Bool). UnderWayIf t bytes g w) on can.under

  -- what is known on a line of rules, and on one of a row
  pub come-at : {place : Place} {room : ℕ} → g.place ≡ place → HasCome bytes formats rows g room → HasCome bytes formats rows (record g { place = place }) room
  come-at {place} {room} is come = subst (λ (p : Place). HasCome bytes formats rows (record g { place = p }) room) is come

  pub on-rule-next : {at : RuleAt} {room : ℕ} → g.place ≡ OnRule at → HasCome bytes formats rows g room → RuleIsNext bytes formats g.tall
  on-rule-next {at} {room} is come = rule-is-next bytes formats rows g room at (come-at is come)

  pub on-rule-stands : {at : RuleAt} {room : ℕ} → g.place ≡ OnRule at → HasCome bytes formats rows g room → StandsAtRule at (drop g.element rows.elements)
  on-rule-stands is come = (come-at is come).stands.stands

  module _ {frame : List ℕ} {w after : KeptWalk} {pieces others : KeptPieces} (on : is_on_line g.place ≡ true) (can : CanGo bytes formats rows g w)
      (ends : RowEnds frame (row_laid bytes g) w after pieces others) where
    pub rule-ends : {new : KeptLineByLine} → PartGone bytes formats rows g new after.room → LineSteps bytes frame formats rows g new w after pieces others
    rule-ends {new} gone =
        let sheet : sheet_by rows new ≡ sheet_by rows g =
        ap (λ (b : Bars). record { bars = b; width = new.width; columns = rows.columns }) gone.bars
        ∙ ap (λ (n : ℕ). record { bars = g.bars; width = n; columns = rows.columns }) gone.width in
        ends-step bytes frame formats rows g w after pieces others on can ends new after refl
        (record { come = gone.come; under = off-under (is_on_line new.place) bytes new after gone.off })
        (off-line bytes frame formats rows new after gone.off ∙ ap (λ (x : ToCome). all_lines (sheet_by rows new) x) gone.coming
        ∙ ap (λ (s : Sheet). all_lines s (behind_part (sheet_by rows g) (coming bytes formats rows g))) sheet)
        gone.own

    pub row-ends : {new : KeptLineByLine} {last : KeptWalk} → LineGone bytes formats rows g new after last
        → LineSteps bytes frame formats rows g new w last pieces others
    row-ends {new} {last} gone = ends-step bytes frame formats rows g w after pieces others on can ends new last gone.room gone.can gone.same gone.own

  -- behind the row's pieces there is as much room
  pub come-after : {w : KeptWalk} {room : ℕ} → room ≡ w.room → CanGo bytes formats rows g w → HasCome bytes formats rows g room
  come-after same can = subst (λ (n : ℕ). HasCome bytes formats rows g n) (sym same) can.come
