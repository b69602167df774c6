use Rattle.std.proofs.Common.{rules, ◌≡◌, Bool, false, ℕ, suc, ◌-◌, ◌<◌, ◌&&◌, List, [], ◌∷◌, drop, get_or, length, refl, sym, ap, subst, ◌∙◌, arith, if◌then◌else◌}
use Rattle.tbl_lines.specs.LinesLeft.{is_there, next_drawn}
use Rattle.tbl_lines.specs.PictureLines.{Cell, Sheet, nothing_there}
use Rattle.tbl_lines.specs.RowsLeft.{first_of}
use Rattle.tbl_lines.specs.RowsWalked.{IsNarrow}
use Rattle.tbl_line_cells.specs.LaidCells.{IsLaidCell, IsShown}
use Rattle.tbl_line_cells.specs.LinesDrawn.{kept_line}
use Rattle.tbl_line_cells.specs.declared.laid_cells.LaidCell.{LaidCell}
use Rattle.tbl_line_cells.specs.declared.line_cells.LineCells.{LineCells}
use Rattle.tbl_line_cells.proofs.ColumnsAt.{any-default}
use Rattle.tbl_line_cells.proofs.LineCut.{CutFrom, cut-all, cut-next, cut-none, drop-get, front-kept, front-next, length-replicate, no_laid, none-cut, none-drawn, none-run, same-fewer, same-get, shown-at}
use Rattle.tbl_line_cells.proofs.LineLaid.{shown-drawn}
use Rattle.tbl_line_cells.proofs.RuleTexts.{as-many-fronts}
use Rattle.tbl_line_cells.proofs.line_cells.LineCells.cut_all.Goals.{In-loop-at}
use Rattle.tbl_line_cells.proofs.line_cells.LineCells.cut_all.Goals as goal

-- each cell is laid as it was begun
laid : (c : In-loop-at) (d : LaidCell) → IsLaidCell c.args.bytes.now (get_or c.loop-at.self.cells.items (c.loop-at.at - 1) d)
laid c d =
    let i = c.loop-at.invariant in
    let laid = c.requires.laid in
    let bytes = c.args.bytes.now in
    let begun = c.args.self.now.cells.items in
    let k = c.loop-at.at - 1 in
    let there = shown-at bytes begun laid.done k d laid.so_far.cells (omega (arith, c.loop-at-test.true, i.within)) in
    let same = same-get c.loop-at.at k c.loop-at.self.cells.items begun d i.first (omega (arith, c.loop-at-test.true)) in
    record { s = there.x; is = subst (λ (e : LaidCell). IsShown bytes e there.x) (sym same) there.is }

pub cut_cell-requires-clause-laid : goal.cut_cell-requires-clause-laid
cut_cell-requires-clause-laid c = laid (goal.at.cut_cell-requires-clause-laid c).In-loop-at

pub drawn_by-next-requires : goal.drawn_by-next-requires
drawn_by-next-requires c =
    let i = c.loop-at.invariant in
    let old = c.loop-at.self.cells.items in
    let k = c.loop-at.at - 1 in
    let few : k < length old = omega (arith, c.loop-at-test.true, i.within, i.count) in
    let same = sym (c.index-cell.ensures ∙ any-default old k _ no_laid few) in
    subst (λ (e : LaidCell). IsNarrow e.column) same (laid (goal.at.drawn_by-next-requires c).In-loop-at no_laid).is.drawn.narrow

pub loop-at-preserved : goal.loop-at-preserved
loop-at-preserved c =
    let a = c.args in
    let i = c.loop-at.invariant in
    let begun = a.self.now in
    let old = c.loop-at.self in
    let new = c.cut_cell.new.self in
    let cut = c.cut_cell.ensures in
    let k = c.loop-at.at - 1 in
    let at : c.loop-at.at ≡ suc k = omega (arith, c.loop-at-test.true) in
    let few : k < length begun.cells.items = omega (arith, at, i.within) in
    record {
      line = cut.line ∙ ap (λ (x : LineCells). record x { cells = new.cells; cut = new.cut; first_cut = new.first_cut }) i.line;
      within = omega (arith, i.within);
      first = cut.first ∙ same-fewer c.loop-at.at k old.cells.items begun.cells.items i.first (omega (arith, at));
      count = cut.count ∙ i.count;
      capacity = cut.capacity ∙ i.capacity;
      cut_capacity = cut.cut_capacity ∙ i.cut_capacity;
      cut_count = cut.cut_count ∙ i.cut_count;
      most = omega (arith, cut.most, i.most, at);
      escapes = cut.escapes ∙ i.escapes;
      so_far = λ bars done fronts so_far.
          let s : Sheet = record { bars = bars; width = a.width; columns = a.columns.now } in
          let has : List Cell = if a.has_fronts then fronts else [] in
          let bytes = a.bytes.now in
          let there = shown-at bytes begun.cells.items done k no_laid so_far.cells few in
          let x = there.x in
          let same = same-get c.loop-at.at k old.cells.items begun.cells.items no_laid i.first (omega (arith, at)) in
          let is : IsShown bytes (get_or old.cells.items k no_laid) x = subst (λ (d : LaidCell). IsShown bytes d x) (sym same) there.is in
          let few_old : k < length old.cells.items = omega (arith, few, i.count) in
          let is_cell = subst (λ (d : LaidCell). IsShown bytes d x) (sym (c.index-cell.ensures ∙ any-default old.cells.items k _ no_laid few_old)) is in
          let from = rw at at (i.so_far bars done fronts so_far) in
          let in_front = front-kept (kept_line begun) (kept_line old) fronts (ap (λ (y : LineCells). y.fronts.items) i.line) so_far.front in
          let many : suc k < length fronts
          = omega (arith, few, c.requires.fronts, as-many-fronts bytes (kept_line begun) done fronts so_far) in
          let drawn : c.drawn_before-drawn.result ≡ next_drawn s.width (drop (suc k) has) (drop (suc k) done)
          = c.drawn_before-drawn.ensures fronts nothing_there in_front
          ∙ ap (λ (n : ℕ). if a.has_fronts && is_there (first_of (get_or fronts n nothing_there)) then (get_or fronts n nothing_there).at
          else c.loop-at.next) at
          ∙ ap (λ (n : ℕ). if a.has_fronts && is_there (first_of (get_or fronts (suc k) nothing_there)) then (get_or fronts (suc k) nothing_there).at
          else n) from.next_is
          ∙ sym (front-next a.has_fronts s.width (suc k) fronts (drop (suc k) done) nothing_there many) in
          cut-next from there.rest drawn
          (drop-get k new.cells.items no_laid (omega (arith, few, cut.count, i.count))
          ∙ ap (λ (cs : List LaidCell). get_or new.cells.items k no_laid ∷ cs) cut.others)
          (cut.cell x no_laid is) (λ own runs. c.room_of.ensures.room bytes bars x own is_cell runs) (cut.cut x no_laid is)
          (c.drawn_by-next.ensures bytes x is_cell);
    }

pub loop-at-init : goal.loop-at-init
loop-at-init c =
    let a = c.args in
    let begun = a.self.now in
    record {
      line = refl;
      within = omega (arith, c.len-at.ensures);
      first = refl;
      count = refl;
      capacity = refl;
      cut_capacity = c.fill_false.ensures.capacity;
      cut_count = ap (λ (bs : List Bool). length bs) c.fill_false.ensures.items ∙ length-replicate (length a.columns.now);
      most = omega (arith, c.requires.none_cut, c.len-at.ensures);
      escapes = refl;
      so_far = λ bars done fronts so_far.
          let s : Sheet = record { bars = bars; width = a.width; columns = a.columns.now } in
          let has : List Cell = if a.has_fronts then fronts else [] in
          let many : c.len-at.result ≡ length begun.cells.items = omega (arith, c.len-at.ensures) in
          let line = record (kept_line begun) { cut = c.fill_false.new.flags.items } in
          subst (λ (n : ℕ). CutFrom a.bytes.now s has done n a.width line) (sym many)
          (cut-none a.bytes.now s has done line (length a.columns.now) so_far.cells c.fill_false.ensures.items c.requires.none_cut);
    }

pub returns-clause-so_far : goal.returns-clause-so_far
returns-clause-so_far c = λ bars done fronts so_far.
    let i = c.loop-at.invariant in
    let end : c.loop-at.at ≡ 0 = omega (arith, c.loop-at-test.false) in
    let from = rw end at (i.so_far bars done fronts so_far) in
    let front = front-kept (kept_line c.args.self.now) (kept_line c.loop-at.self) fronts (ap (λ (y : LineCells). y.fronts.items) i.line) so_far.front in
    record { cells = from.drawn; front = front }

pub returns-clause-cut : goal.returns-clause-cut
returns-clause-cut c = λ bars done fronts so_far order.
    let i = c.loop-at.invariant in
    let end : c.loop-at.at ≡ 0 = omega (arith, c.loop-at-test.false) in
    cut-all (rw end at (i.so_far bars done fronts so_far)) i.cut_count order

pub returns-then-not-self-clause-so_far : goal.returns-then-not-self-clause-so_far
returns-then-not-self-clause-so_far c = λ bars done fronts so_far.
    let line = c.args.self.now in
    let off : line.has_running ≡ false = search rules in
    record {
      cells = none-drawn c.args.bytes.now _ _ done line.cells.items (none-run done (sym so_far.running ∙ off))
          (shown-drawn c.args.bytes.now line.cells.items done so_far.cells);
      front = so_far.front;
    }

pub returns-then-not-self-clause-cut : goal.returns-then-not-self-clause-cut
returns-then-not-self-clause-cut c = λ bars done fronts so_far order.
    let line = c.args.self.now in
    let off : line.has_running ≡ false = search rules in
    none-cut _ _ done (length c.args.columns.now) (kept_line line) (none-run done (sym so_far.running ∙ off)) c.requires.none c.requires.none_cut
