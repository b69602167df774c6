use Rattle.std.proofs.Common.{◌≡◌, ℕ, [], ◌∷◌, ◌++◌, Option, ap, subst, ◌∙◌}
use Rattle.tbl_format.specs.declared.format.FormatKey.{FormatKey}
use Rattle.tbl_layout.specs.Widths.{inner_bars}
use Rattle.tbl_layout.specs.declared.data_lines.RuleSign.{RuleSign}
use Rattle.tbl_lines.specs.LinesLeft.{crossed_or_not, end_by, joined_here, shown}
use Rattle.tbl_line_cells.specs.LaidCells.{on_line}
use Rattle.tbl_line_cells.specs.LinesDrawn.{SoFar, kept_line}
use Rattle.tbl_line_cells.proofs.line_cells.LineCells.lay_between.Goals as goal

pub returns-clause-so_far : goal.returns-clause-so_far
returns-clause-so_far c = λ bytes l m done fronts is next so_far.
    let column = c.args.column in
    let beside = c.args.next in
    let sign = joined_here l m in
    let count = inner_bars c.args.boxing m.key.bars in
    let joined : c.joined-joined.result ≡ sign = c.joined-joined.ensures bytes l m is next in
    let bars : c.inner_bars-bars.result ≡ count
    = c.inner_bars-bars.ensures ∙ ap (λ (k : FormatKey). inner_bars c.args.boxing k.bars) next.key in
    let end : c.end_by.result ≡ end_by sign count column beside
    = c.end_by.ensures.value
    ∙ ap (λ (s : Option RuleSign). end_by s c.inner_bars-bars.result column beside) joined
    ∙ ap (λ (n : ℕ). end_by sign n column beside) bars in
    let shows = c.front_between.ensures.shows
    ∙ ap (λ (s : Option RuleSign). on_line (crossed_or_not s c.inner_bars-bars.result column beside)) joined
    ∙ ap (λ (n : ℕ). on_line (crossed_or_not sign n column beside)) bars in
    let cell = subst (λ (n : ℕ). SoFar bytes (kept_line c.push_cell.new.self) (done ++ shown l column n ∷ []) fronts) end
    (c.push_cell.ensures.so_far bytes l done fronts is so_far) in
    c.push_front.ensures.so_far bytes (crossed_or_not sign count column beside) (done ++ shown l column (end_by sign count column beside) ∷ []) fronts
    c.front_between.ensures.some shows cell
