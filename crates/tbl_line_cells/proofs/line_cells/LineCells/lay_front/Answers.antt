use Rattle.std.proofs.Common.{rules, ◌≡◌, suc, ◌+◌, ◌<◌, true, false, List, ◌++◌, get_or, length, sym, subst, ◌∙◌, arith}
use Rattle.tbl_lines.specs.LinesLeft.{is_within, over_at, overs}
use Rattle.tbl_lines.specs.PictureLines.{Cell, Sheet}
use Rattle.tbl_line_cells.specs.LinesDrawn.{SoFar, kept_line}
use Rattle.tbl_line_cells.proofs.ColumnsAt.{drop-two}
use Rattle.tbl_line_cells.proofs.FrontLists.{list-last, list-none, list-some, next-within, nothing-more}
use Rattle.tbl_line_cells.proofs.FrontsOf.{no_cell, no_column}
use Rattle.tbl_line_cells.proofs.line_cells.LineCells.lay_front.Goals as goal

pub returns-then-not-is_within-clause-so_far : goal.returns-then-not-is_within-clause-so_far
returns-then-not-is_within-clause-so_far c = λ bytes lefts bars width line above below done fronts given so_far.
    let a = c.args in
    let cells = a.cells.now in
    let columns = a.columns.now in
    let all = overs 0 lefts columns in
    let s : Sheet = record { bars = bars; width = width; columns = columns } in
    let more : a.at + 1 < length columns = c.if-at-columns.true in
    let off : c.is_within.result ≡ false = search rules in
    let outside : is_within (over_at all (suc a.at)) ≡ false =
    next-within bytes cells lefts columns a.next a.at given.left c.requires.cover (c.requires.next more)
    ∙ sym (c.is_within.ensures no_cell) ∙ off in
    let stands = c.front_of.ensures.stands bytes lefts bars line above below (get_or columns a.at no_column) (get_or columns (suc a.at) no_column) _
    given
    (drop-two columns a.at no_column no_column (omega (arith, more))) in
    subst (λ (fs : List Cell). SoFar bytes (kept_line c.push_front.new.self) done (fronts ++ fs))
    (sym (list-some s line all above below a.at more outside))
    (c.push_front.ensures.so_far bytes _ done fronts stands.some stands.shows so_far)

pub returns-else-not-is_within-clause-so_far : goal.returns-else-not-is_within-clause-so_far
returns-else-not-is_within-clause-so_far c = λ bytes lefts bars width line above below done fronts given so_far.
    let a = c.args in
    let cells = a.cells.now in
    let columns = a.columns.now in
    let all = overs 0 lefts columns in
    let s : Sheet = record { bars = bars; width = width; columns = columns } in
    let more : a.at + 1 < length columns = c.if-at-columns.true in
    let on : c.is_within.result ≡ true = search rules in
    let inside : is_within (over_at all (suc a.at)) ≡ true =
    next-within bytes cells lefts columns a.next a.at given.left c.requires.cover (c.requires.next more)
    ∙ sym (c.is_within.ensures no_cell) ∙ on in
    subst (λ (fs : List Cell). SoFar bytes (kept_line a.self.now) done fs)
    (nothing-more fronts _ (list-none s line all above below a.at more inside)) so_far

pub returns-else-at-columns-clause-so_far : goal.returns-else-at-columns-clause-so_far
returns-else-at-columns-clause-so_far c = λ bytes lefts bars width line above below done fronts given so_far.
    let a = c.args in
    let columns = a.columns.now in
    let s : Sheet = record { bars = bars; width = width; columns = columns } in
    let last : a.at + 1 ≡ length columns = omega (arith, c.if-at-columns.false, c.requires.within) in
    subst (λ (fs : List Cell). SoFar bytes (kept_line a.self.now) done fs)
    (nothing-more fronts _ (list-last s line (overs 0 lefts columns) above below a.at last)) so_far
