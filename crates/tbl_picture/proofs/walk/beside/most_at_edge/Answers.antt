use Rattle.std.proofs.Common.{◌≡◌, ℕ, suc, ◌+◌, ◌-◌, ◌<◌, max, sym, ap, ◌∙◌, arith}
use Rattle.tbl_format.specs.RowsServed.{all_rows, row_at}
use Rattle.tbl_layout.specs.Widths.{edge_bars}
use Rattle.tbl_lines.specs.PictureLines.{bars_at_edge, behind_rules, shown_at_edge}
use Rattle.tbl_picture.specs.RulesWalked.{rows_at}
use Rattle.tbl_picture.proofs.RuleLengths.{edge-more}
use Rattle.tbl_picture.proofs.walk.beside.most_at_edge.Goals as goal

pub loop-row-init : goal.loop-row-init
loop-row-init c =
    let formats = all_rows c.args.format.now.format in
    let first = c.args.rules.first in
    let none : first - first ≡ 0 = omega arith in
    record {
      order = omega arith;
      until = omega arith;
      most = λ line.
          let start : shown_at_edge c.args.boxing line c.args.at ≡ max 0 (shown_at_edge c.args.boxing line c.args.at) = omega arith in
          ap (λ (n : ℕ). shown_at_edge c.args.boxing (behind_rules (rows_at formats first n) line) c.args.at) none ∙ start;
    }

pub loop-row-preserved : goal.loop-row-preserved
loop-row-preserved c =
    let formats = all_rows c.args.format.now.format in
    let boxing = c.args.boxing in
    let column = c.args.at in
    let first = c.args.rules.first in
    let row = c.loop-row.row in
    let n = row - first in
    let few : row < first + c.args.rules.count = omega (arith, c.loop-row-test.true, c.rows_end-row-end.ensures) in
    let more : row + 1 - first ≡ suc n = omega (arith, c.loop-row.invariant.order) in
    let there : first + n ≡ row = omega (arith, c.loop-row.invariant.order) in
    let bars = bars_at_edge boxing (row_at formats row) column in
    let bars_is : c.edge_bars-bars.result ≡ bars = c.edge_bars-bars.ensures ∙ ap (edge_bars boxing) c.format_bars.ensures in
    record {
      order = omega (arith, c.loop-row.invariant.order);
      until = omega (arith, few);
      most = λ line.
          let so_far = shown_at_edge boxing (behind_rules (rows_at formats first n) line) column in
          let shown = shown_at_edge boxing line column in
          let most_is : so_far ≡ max c.loop-row.most shown = c.loop-row.invariant.most line in
          let max_is : c.max-more.result ≡ max bars c.loop-row.most = c.max-more.ensures ∙ ap (λ (k : ℕ). max k c.loop-row.most) bars_is in
          let turned : max bars (max c.loop-row.most shown) ≡ max (max bars c.loop-row.most) shown = omega arith in
          ap (λ (k : ℕ). shown_at_edge boxing (behind_rules (rows_at formats first k) line) column) more
          ∙ edge-more boxing formats first n column line (omega (arith, there, few, c.requires))
          ∙ ap (λ (k : ℕ). max (bars_at_edge boxing (row_at formats k) column) so_far) there
          ∙ ap (max bars) most_is
          ∙ turned
          ∙ ap (λ (k : ℕ). max k shown) (sym max_is);
    }

pub returns : goal.returns
returns c = λ line.
    let formats = all_rows c.args.format.now.format in
    let first = c.args.rules.first in
    let count = c.args.rules.count in
    let all : count ≡ c.loop-row.row - first =
    omega (arith, c.loop-row-test.false, c.rows_end-row-end.ensures, c.loop-row.invariant.until, c.loop-row.invariant.order) in
    ap (λ (n : ℕ). shown_at_edge c.args.boxing (behind_rules (rows_at formats first n) line) c.args.at) all ∙ c.loop-row.invariant.most line
