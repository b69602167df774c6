use Rattle.std.proofs.Common.{ℕ, ◌<◌, get_or, length, sym, ap, ◌∙◌, arith, if◌then◌else◌, Option, is_some}
use Rattle.tbl_layout.specs.Widths.{edge_bars, inner_bars}
use Rattle.tbl_layout.specs.declared.data_lines.RuleSign.{RuleSign}
use Rattle.tbl_tall.proofs.CellsStep.{no_cell}
use Rattle.tbl_tall.proofs.RowBars.{front-first, front-kept, front-none, fronts_of}
use Rattle.tbl_tall.proofs.shown_bars.bars_before.Goals as goal

pub returns-then-at-eq0 : goal.returns-then-at-eq0
returns-then-at-eq0 c = λ bytes lefts last all.
    let cells = c.args.cells.now in
    let zero = c.if-at-eq0.true in
    let some : 0 < length cells = omega (arith, c.requires) in
    c.edge_bars.ensures
    ∙ ap (λ (n : ℕ). edge_bars c.args.boxing (get_or cells n no_cell).key.bars) zero
    ∙ sym (front-first bytes c.args.boxing last c.args.rules cells lefts no_cell all some)
    ∙ ap (fronts_of bytes c.args.boxing last c.args.rules lefts) (sym zero)

pub returns-then-bars-eq0 : goal.returns-then-bars-eq0
returns-then-bars-eq0 c = λ bytes lefts last all.
    let some : 0 < c.args.at = omega (arith, c.if-at-eq0.false) in
    sym (front-none bytes c.args.boxing last c.args.rules c.args.cells.now lefts c.args.at no_cell all some c.requires
    (sym c.inner_bars-bars.ensures ∙ c.if-bars-eq0.true))

pub returns-in-Some : goal.returns-in-Some
returns-in-Some c = λ bytes lefts last all.
    let cells = c.args.cells.now in
    let at = c.args.at in
    let some : 0 < at = omega (arith, c.if-at-eq0.false) in
    sym (front-kept bytes c.args.boxing last c.args.rules cells lefts at no_cell c.on_first_line-before.result c.on_first_line.result
    c.joined.result all
    some c.requires (c.on_first_line-before.ensures bytes) (c.on_first_line.ensures bytes) (c.joined.ensures bytes)
    ∙ ap (λ (j : Option RuleSign). if is_some j then 0 else inner_bars c.args.boxing (get_or cells at no_cell).key.bars) c.in-Some.is)

pub returns-in-None : goal.returns-in-None
returns-in-None c = λ bytes lefts last all.
    let cells = c.args.cells.now in
    let at = c.args.at in
    let some : 0 < at = omega (arith, c.if-at-eq0.false) in
    c.inner_bars-bars.ensures
    ∙ sym (front-kept bytes c.args.boxing last c.args.rules cells lefts at no_cell c.on_first_line-before.result c.on_first_line.result
    c.joined.result all
    some c.requires (c.on_first_line-before.ensures bytes) (c.on_first_line.ensures bytes) (c.joined.ensures bytes)
    ∙ ap (λ (j : Option RuleSign). if is_some j then 0 else inner_bars c.args.boxing (get_or cells at no_cell).key.bars) c.in-None.is)
