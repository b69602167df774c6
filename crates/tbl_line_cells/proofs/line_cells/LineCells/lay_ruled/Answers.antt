use Rattle.std.proofs.Common.{◌≡◌, ℕ, ◌-◌, true, List, [], ◌∷◌, ◌++◌, drop, get_or, length, sym, ap, subst, ◌∙◌, arith, Option, if◌then◌else◌, vec_capacity}
use Rattle.std.proofs.lemmas.List.{drop_all}
use Rattle.tbl_layout.specs.LayoutLaws.{last_end}
use Rattle.tbl_layout.specs.declared.data_lines.RuleSign.{RuleSign}
use Rattle.tbl_lines.specs.CellsLeft.{Left}
use Rattle.tbl_lines.specs.LinesLeft.{Shown, all_cut, cut_cells}
use Rattle.tbl_lines.specs.PictureLines.{Cell, Sheet, line_of, with_fronts}
use Rattle.tbl_line_cells.specs.LinesDrawn.{RunInOrder, SoFar, kept_line}
use Rattle.tbl_line_cells.specs.RulesDrawn.{RuleGiven, edge_drawn}
use Rattle.tbl_line_cells.specs.declared.line_cells.LineCells.{LineCells}
use Rattle.tbl_line_cells.proofs.ColumnsAt.{drop-one}
use Rattle.tbl_line_cells.proofs.FrontsMarked.{all_cut-alike, cut_cells-alike}
use Rattle.tbl_line_cells.proofs.FrontsOf.{no_column}
use Rattle.tbl_line_cells.proofs.LaidSteps.{laid-fronts, laid-shown}
use Rattle.tbl_line_cells.proofs.RowKept.{keeps-cells, keeps-front, keeps-then}
use Rattle.tbl_line_cells.proofs.RuleEdges.{first-none, left-ruled, right-ruled}
use Rattle.tbl_line_cells.proofs.RuleTexts.{fronts-are, fronts-enough, laid-drawn, laid-marked, shown-is}
use Rattle.tbl_line_cells.proofs.RunOrder.{rule-order}
use Rattle.tbl_line_cells.proofs.line_cells.LineCells.lay_ruled.Goals as goal

pub lay_columns-requires-clause-room : goal.lay_columns-requires-clause-room
lay_columns-requires-clause-room c =
    omega (arith, c.requires.room.cells, ap (λ (x : LineCells). vec_capacity x.cells) c.push_front.ensures.line)

pub lay_columns-requires-clause-front_room : goal.lay_columns-requires-clause-front_room
lay_columns-requires-clause-front_room c = omega (arith, c.requires.room.fronts, c.push_front.ensures.capacity)

pub push_front-requires-2 : goal.push_front-requires-2
push_front-requires-2 c = record {
  room = omega (
    arith,
    c.requires.room.fronts,
    c.push_front.ensures.capacity,
    c.lay_columns.ensures.front_capacity,
    c.lay_columns.ensures.few_fronts,
  );
}

pub returns-clause-keeps : goal.returns-clause-keeps
returns-clause-keeps c =
    let old = c.args.self.now in
    let front = c.push_front in
    let laid = c.lay_columns in
    let last = c.push_front-2 in
    keeps-then old front.new.self last.new.self (keeps-front old front.new.self front.ensures.line front.ensures.capacity)
    (keeps-then front.new.self laid.new.self last.new.self
    (keeps-cells front.new.self laid.new.self laid.ensures.line laid.ensures.capacity laid.ensures.front_capacity)
    (keeps-front laid.new.self last.new.self last.ensures.line last.ensures.capacity))

pub returns-clause-few : goal.returns-clause-few
returns-clause-few c = omega (arith, c.lay_columns.ensures.few, ap (λ (x : LineCells). length x.cells.items) c.push_front-2.ensures.line)

pub returns-clause-laid : goal.returns-clause-laid
returns-clause-laid c = λ bytes lefts bars line above below whole given none_so_far.
    let a = c.args in
    let r = c.requires in
    let cells = a.cells.now in
    let columns = a.columns.now in
    let counts = a.counts.now in
    let s : Sheet = record { bars = bars; width = a.width; columns = columns } in
    let begun = c.push_front.new.self in
    let laid_line = c.lay_columns.new.self in
    let ended = c.push_front-2.new.self in
    let is_left = c.rules_edge-is_left.result in
    let is_right = c.rules_edge-is_right.result in
    let left = get_or counts 0 0 in
    let last = get_or counts (length columns) 0 in
    let right = c.saturating_sub-right.result in
    let right_is : right ≡ a.width - last = c.saturating_sub-right.ensures in
    let from = c.left_end-from.result in
    let to = c.right_end-to.result in
    let signs : a.self.now.signs.items ≡ begun.signs.items = sym (ap (λ (x : LineCells). x.signs.items) c.push_front.ensures.line) in
    let here = subst (λ (ss : List (Option RuleSign)). RuleGiven bytes cells ss counts columns lefts bars line above below) signs given in
    let none : drop (length columns) columns ≡ [] = drop_all (length columns) columns (omega arith) in
    let first_edge = c.edge.ensures in
    let last_edge = c.edge-2.ensures in
    let e1 = edge_drawn is_left 0 left in
    let e2 = edge_drawn is_right right last in
    let e3 = edge_drawn is_right (a.width - last) last in
    let so_far = c.push_front.ensures.so_far bytes e1 [] [] first_edge.some first_edge.shows none_so_far in
    let laid = c.lay_columns.ensures.laid bytes lefts bars a.width line above below e1 here so_far in
    let all_fronts = (e1 ∷ laid.fronts) ++ e3 ∷ [] in
    let so_far_2 : SoFar bytes (kept_line ended) laid.done all_fronts =
    subst (λ (n : ℕ). SoFar bytes (kept_line ended) laid.done ((e1 ∷ laid.fronts) ++ edge_drawn is_right n last ∷ [])) right_is
    (c.push_front-2.ensures.so_far bytes e2 laid.done (e1 ∷ laid.fronts) last_edge.some last_edge.shows laid.so_far) in
    let done_is = laid-shown bytes s lefts line above below e1 from to (kept_line laid_line) (length columns) none laid in
    let fronts_is = laid-fronts bytes s lefts line above below e1 from to (kept_line laid_line) (length columns) none laid in
    let enough = fronts-enough s lefts line above below bytes (kept_line ended) e1 e3 from to laid.done laid.fronts (get_or columns 0 no_column)
    (drop 1 columns)
    (drop-one columns 0 no_column r.some) (first-none bytes cells columns lefts given.left r.cover r.some a.is_whole line whole)
    so_far_2 done_is fronts_is in
    let left_ruled = c.rules_edge-is_left.ensures ∙ left-ruled bytes cells columns lefts given.left r.cover r.some a.is_whole line whole in
    let right_ruled = c.rules_edge-is_right.ensures ∙ right-ruled bytes cells columns lefts given.left r.cover r.some a.is_whole line whole in
    let left_met = given.met 0 (omega arith) in
    let right_met = given.met (length columns) (omega arith) in
    let fronts_are = fronts-are s lefts line above below is_left is_right left last laid.fronts left_ruled right_ruled left_met right_met fronts_is in
    let marked = laid-marked s lefts line above below is_left is_right left last laid.fronts in
    record {
      done = laid.done;
      fronts = all_fronts;
      so_far = so_far_2;
      shown = done_is
          ∙ shown-is s lefts line above below is_left is_right left last from to left_ruled right_ruled left_met right_met
          c.left_end-from.ensures.value
          (c.right_end-to.ensures.value ∙ ap (λ (n : ℕ). if is_right then n else last_end 0 columns) right_is);
      drawn = λ more.
          laid-drawn s lefts line above below is_left is_right left last laid.fronts more
          ∙ ap (λ (fs : List Cell). line_of 0 (with_fronts fs more)) fronts_are;
      cut = all_cut-alike s all_fronts _ laid.done marked ∙ ap (λ (fs : List Cell). all_cut s fs laid.done) fronts_are;
      cut_of = cut_cells-alike s all_fronts _ laid.done marked ∙ ap (λ (fs : List Cell). cut_cells s fs laid.done) fronts_are;
      order = subst (λ (ss : List Shown). RunInOrder (length columns) 0 ss) (sym done_is)
          (rule-order bytes cells lefts columns given.left r.cover line to from r.some);
      some = enough.0;
      many = enough.1;
    }
