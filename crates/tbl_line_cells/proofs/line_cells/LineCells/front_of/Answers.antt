use Rattle.std.proofs.Common.{rules, ◌≡◌, ◌+◌, true, false, get_or, refl, ap, subst, ◌∙◌, arith, nat_lt, None}
use Rattle.tbl_layout.specs.Columns.{bars_begin, bars_end}
use Rattle.tbl_layout.specs.declared.columns.Column.{Column}
use Rattle.tbl_lines.specs.PictureLines.{Cell}
use Rattle.tbl_line_cells.specs.RulesDrawn.{StandsAs}
use Rattle.tbl_line_cells.proofs.ColumnsAt.{any-default}
use Rattle.tbl_line_cells.proofs.FrontsOf.{are-there, before-is, count-is, free-is, met, met-next, no_cell, places, stands-by, through-is}
use Rattle.tbl_line_cells.proofs.line_cells.LineCells.front_of.Goals as goal

pub returns-then-not-goes_on : goal.returns-then-not-goes_on
returns-then-not-goes_on c = record {
  stands = λ bytes lefts bars line above below d e others given is.
      let a = c.args in
      let r = c.requires in
      let there = are-there a.columns.now a.at d e others r.within is in
      let fit = places given r.cover r.column r.next r.within is in
      let none : nat_lt 0 (get_or a.cells.now a.cell no_cell).rows ≡ false = search rules in
      subst (λ (f : Cell). StandsAs c.ruled.result f) (free-is given r.cover r.column r.next r.within is none)
      (stands-by
      (c.index.ensures ∙ any-default a.self.now.signs.items a.at _ None (omega (arith, r.within, r.signs)))
      (c.end_of.ensures ∙ ap (λ (x : Column). x.start + x.width) there.first)
      (count-is given r.cover r.column r.next r.within is) there.first there.second
      (c.bars_end-to.ensures ∙ (λ i. bars_end (there.first i) (there.second i)))
      c.ruled.ensures fit.behind fit.end);
}

pub returns-then-not-goes_on-2 : goal.returns-then-not-goes_on-2
returns-then-not-goes_on-2 c = record {
  stands = λ bytes lefts bars line above below d e others given is.
      let a = c.args in
      let r = c.requires in
      let there = are-there a.columns.now a.at d e others r.within is in
      let fit = places given r.cover r.column r.next r.within is in
      let on : nat_lt 0 (get_or a.cells.now a.cell no_cell).rows ≡ true = search rules in
      let none : nat_lt 0 (get_or a.cells.now a.next no_cell).rows ≡ false = search rules in
      subst (λ (f : Cell). StandsAs c.ruled-then-not-goes_on-2.result f) (before-is given r.cover r.column r.next r.within is on none)
      (stands-by
      (c.index-then-not-goes_on-2.ensures ∙ any-default a.self.now.signs.items (a.at + 1) _ None (omega (arith, r.within, r.signs)))
      (c.bars_begin-from.ensures ∙ (λ i. bars_begin (there.first i) (there.second i)))
      (count-is given r.cover r.column r.next r.within is) there.first there.second
      (c.bars_end-to-then-not-goes_on-2.ensures ∙ (λ i. bars_end (there.first i) (there.second i)))
      c.ruled-then-not-goes_on-2.ensures fit.begin fit.end);
}

pub returns : goal.returns
returns c = record {
  stands = λ bytes lefts bars line above below d e others given is.
      let a = c.args in
      let r = c.requires in
      let there = are-there a.columns.now a.at d e others r.within is in
      let fit = places given r.cover r.column r.next r.within is in
      let here = met given r.cover r.column r.next r.within is in
      let behind = met-next given r.cover r.column r.next r.within is in
      let on : nat_lt 0 (get_or a.cells.now a.cell no_cell).rows ≡ true = search rules in
      let more : nat_lt 0 (get_or a.cells.now a.next no_cell).rows ≡ true = search rules in
      subst (λ (f : Cell). StandsAs c.ruled-2.result f)
      (through-is given r.cover r.column r.next r.within is on more
      c.joined-joined.result (c.joined-joined.ensures bytes here.own behind.own here.left behind.left))
      (stands-by refl (c.end_of-2.ensures ∙ ap (λ (x : Column). x.start + x.width) there.first)
      (count-is given r.cover r.column r.next r.within is) there.first there.second (ap (λ (x : Column). x.start) there.second)
      c.ruled-2.ensures fit.behind fit.in_front);
}
