use Rattle.std.proofs.Common.{◌≡◌, ◌-◌, ◌++◌, get_or, refl, sym, subst, ◌∙◌, None, Option, Some}
use Rattle.tbl_layout.specs.DataLines.{sign_byte}
use Rattle.tbl_layout.specs.declared.data_lines.RuleSign.{RuleSign}
use Rattle.tbl_lines.specs.LinesLeft.{drawn_at, if_drawn}
use Rattle.tbl_lines.specs.PictureLines.{bar}
use Rattle.tbl_line_cells.specs.LinesDrawn.{SoFar, kept_line}
use Rattle.tbl_line_cells.proofs.ColumnsAt.{any-default}
use Rattle.tbl_line_cells.proofs.RuleCells.{byte-drawn, ends-drawn, lies-drawn, shows-drawn}
use Rattle.tbl_line_cells.proofs.line_cells.LineCells.push_ruled.Goals as goal

pub returns-in-Some-clause-so_far : goal.returns-in-Some-clause-so_far
returns-in-Some-clause-so_far c = λ bytes done fronts so_far.
    let a = c.args in
    let signs = a.self.now.signs.items in
    let sign = c.in-Some.sign in
    let sign_is : get_or signs a.at None ≡ Some sign = any-default signs a.at None _ c.requires.within ∙ sym c.index.ensures ∙ c.in-Some.is in
    subst (λ (s : Option RuleSign). SoFar bytes (kept_line c.push_drawn.new.self) (done ++ if_drawn s a.from a.to) fronts) (sym sign_is)
    (c.push_drawn.ensures.so_far bytes (drawn_at a.from (sign_byte sign) (a.to - a.from)) done fronts refl refl
    (lies-drawn bytes c.repeated.result (sign_byte sign) c.repeated.ensures)
    (ends-drawn c.repeated.result (sign_byte sign) c.repeated.ensures)
    (byte-drawn c.repeated.result (sign_byte sign) c.repeated.ensures)
    (shows-drawn bytes c.drawn_at.result c.repeated.result a.from (a.to - a.from) (sign_byte sign) c.repeated.ensures
    c.drawn_at.ensures.start (c.drawn_at.ensures.width ∙ c.saturating_sub.ensures))
    so_far)

pub returns-in-None-clause-so_far : goal.returns-in-None-clause-so_far
returns-in-None-clause-so_far c = λ bytes done fronts so_far.
    let a = c.args in
    let signs = a.self.now.signs.items in
    let sign_is : get_or signs a.at None ≡ None = any-default signs a.at None _ c.requires.within ∙ sym c.index.ensures ∙ c.in-None.is in
    subst (λ (s : Option RuleSign). SoFar bytes (kept_line c.push_drawn-in-None.new.self) (done ++ if_drawn s a.from a.to) fronts)
    (sym sign_is)
    (c.push_drawn-in-None.ensures.so_far bytes (drawn_at a.from bar 0) done fronts refl refl
    (lies-drawn bytes c.nothing_ruled.result bar c.nothing_ruled.ensures)
    (ends-drawn c.nothing_ruled.result bar c.nothing_ruled.ensures)
    (byte-drawn c.nothing_ruled.result bar c.nothing_ruled.ensures)
    (shows-drawn bytes c.drawn_at-in-None.result c.nothing_ruled.result a.from 0 bar c.nothing_ruled.ensures
    c.drawn_at-in-None.ensures.start c.drawn_at-in-None.ensures.width)
    so_far)
