use Rattle.std.proofs.Common.{rules, ◌≡◌, ℕ, suc, ◌+◌, ◌-◌, true, false, List, [], ◌∷◌, ◌++◌, drop, get_or, take, sym, ap, subst, ◌∙◌, append-nil, arith, nat_lt, Option}
use Rattle.tbl_layout.specs.Spans.{as_one}
use Rattle.tbl_layout.specs.declared.columns.Column.{Column}
use Rattle.tbl_layout.specs.declared.data_lines.RuleSign.{RuleSign}
use Rattle.tbl_lines.specs.LinesLeft.{Shown, if_drawn, shown}
use Rattle.tbl_line_cells.specs.LinesDrawn.{SoFar, kept_line, keys_in}
use Rattle.tbl_line_cells.specs.RulesDrawn.{begin_from}
use Rattle.tbl_line_cells.proofs.CellsOver.{begins-most, less-by, over-cell}
use Rattle.tbl_line_cells.proofs.FrontsOf.{no_cell}
use Rattle.tbl_line_cells.proofs.RuleCells.{shown-first, shown-free, shown-further, slice-taken}
use Rattle.tbl_line_cells.proofs.line_cells.LineCells.lay_over.Goals as goal

pub as_one-column-requires-clause-within : goal.as_one-column-requires-clause-within
as_one-column-requires-clause-within c =
    let keys = keys_in c.args.cells.now in
    omega (
      arith,
      c.begin_of-then-at-begin_of.ensures,
      begins-most 0 _ (c.args.cell + 1) keys c.requires.cover
          (omega (arith, c.requires.column.is_cell)),
    )

pub returns-then-not-goes_on-clause-so_far : goal.returns-then-not-goes_on-clause-so_far
returns-then-not-goes_on-clause-so_far c = λ bytes counts lefts bars line above below done fronts given so_far.
    let a = c.args in
    let cells = a.cells.now in
    let columns = a.columns.now in
    let none : nat_lt 0 (get_or cells a.cell no_cell).rows ≡ false = search rules in
    let met = over-cell bytes cells lefts columns a.cell a.at no_cell given.left c.requires.cover c.requires.column in
    let shows = shown-free bytes (get_or cells a.cell no_cell) lefts columns _ _ a.at met line a.from a.to none
    ∙ ap (λ (s : Option RuleSign). if_drawn s a.from a.to) (sym (given.drawn a.at c.requires.within)) in
    subst (λ (ss : List Shown). SoFar bytes (kept_line c.push_ruled.new.self) (done ++ ss) fronts) (sym shows)
    (c.push_ruled.ensures.so_far bytes done fronts so_far)

pub returns-then-at-begin_of-clause-so_far : goal.returns-then-at-begin_of-clause-so_far
returns-then-at-begin_of-clause-so_far c = λ bytes counts lefts bars line above below done fronts given so_far.
    let a = c.args in
    let cells = a.cells.now in
    let columns = a.columns.now in
    let keys = keys_in cells in
    let on : nat_lt 0 (get_or cells a.cell no_cell).rows ≡ true = search rules in
    let met = over-cell bytes cells lefts columns a.cell a.at no_cell given.left c.requires.cover c.requires.column in
    let begins : a.at ≡ begin_from 0 a.cell keys = c.if-at-begin_of.true ∙ c.begin_of.ensures in
    let next : a.cell + 1 ≡ suc a.cell = omega arith in
    let ends : c.begin_of-then-at-begin_of.result ≡ begin_from 0 (suc a.cell) keys =
    c.begin_of-then-at-begin_of.ensures ∙ ap (λ (n : ℕ). begin_from 0 n keys) next in
    let end = begin_from 0 (suc a.cell) keys in
    let shows = shown-first bytes (get_or cells a.cell no_cell) lefts columns (begin_from 0 a.cell keys) end a.at met line a.from a.to on begins in
    let column_is : c.as_one-column.result ≡ as_one (take (end - begin_from 0 a.cell keys) (drop (begin_from 0 a.cell keys) columns)) =
    c.as_one-column.ensures.value
    ∙ ap (λ (cs : List Column). as_one cs)
    (slice-taken columns a.at c.begin_of-then-at-begin_of.result (omega (arith, ends, c.requires.column.to)))
    ∙ ap (λ (n : ℕ). as_one (take (n - a.at) (drop a.at columns))) ends
    ∙ ap (λ (n : ℕ). as_one (take (end - n) (drop n columns))) begins in
    subst (λ (ss : List Shown). SoFar bytes (kept_line c.push_cell.new.self) (done ++ ss) fronts) (sym shows)
    (subst (λ (x : Column). SoFar bytes (kept_line c.push_cell.new.self) (done ++ shown met.own x (x.start + x.width) ∷ []) fronts) column_is
    (c.push_cell.ensures.so_far bytes met.own done fronts met.left so_far))

pub returns-else-at-begin_of-clause-so_far : goal.returns-else-at-begin_of-clause-so_far
returns-else-at-begin_of-clause-so_far c = λ bytes counts lefts bars line above below done fronts given so_far.
    let a = c.args in
    let cells = a.cells.now in
    let columns = a.columns.now in
    let keys = keys_in cells in
    let on : nat_lt 0 (get_or cells a.cell no_cell).rows ≡ true = search rules in
    let met = over-cell bytes cells lefts columns a.cell a.at no_cell given.left c.requires.cover c.requires.column in
    let more = less-by (begin_from 0 a.cell keys) a.at c.requires.column.from (λ is. c.if-at-begin_of.false (sym is ∙ sym c.begin_of.ensures)) in
    let shows = shown-further bytes (get_or cells a.cell no_cell) lefts columns _ _ a.at met line a.from a.to on more in
    subst (λ (ss : List Shown). SoFar bytes (kept_line a.self.now) ss fronts) (sym (append-nil done) ∙ ap (λ (ss : List Shown). done ++ ss) (sym shows))
    so_far
