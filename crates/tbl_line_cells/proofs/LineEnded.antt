-- What cutting cells of a line and putting them in order leaves as it was.
use Rattle.std.proofs.Common.{◌≡◌, ℕ, List, sym, ap, subst, ◌∙◌, arith, vec_capacity}
use Rattle.tbl_lines.specs.CellsLeft.{Left}
use Rattle.tbl_line_cells.specs.LinesDrawn.{CutOn, LineHasRoom, IsNoRow, KeptLine, as_row, kept_line}
use Rattle.tbl_line_cells.specs.declared.line_cells.LineCells.{LineCells}

-- cells and what is cut of them change, and then cells alone
pub record Ended (old new : LineCells) : Type 0 where
  pub line : new ≡ record old { cells = new.cells; cut = new.cut; first_cut = new.first_cut }
  pub capacity : vec_capacity new.cells ≡ vec_capacity old.cells
  pub cut_capacity : vec_capacity new.cut ≡ vec_capacity old.cut

pub ended : {s t u : LineCells} → t ≡ record s { cells = t.cells; cut = t.cut; first_cut = t.first_cut }
    → vec_capacity t.cells ≡ vec_capacity s.cells → vec_capacity t.cut ≡ vec_capacity s.cut
    → u ≡ record t { cells = u.cells } → vec_capacity u.cells ≡ vec_capacity t.cells → Ended s u
ended {s} {t} {u} first cells cut second more =
    let own : u ≡ record t { cells = u.cells; cut = u.cut; first_cut = u.first_cut }
    = second ∙ ap (λ (x : LineCells). record t { cells = u.cells; cut = x.cut; first_cut = x.first_cut }) (sym second) in
    record {
      line = own ∙ ap (λ (x : LineCells). record x { cells = u.cells; cut = u.cut; first_cut = u.first_cut }) first;
      capacity = more ∙ cells;
      cut_capacity = ap (λ (x : LineCells). vec_capacity x.cut) second ∙ cut;
    }

pub room-ended : {room : ℕ} {s t : LineCells} → Ended s t → LineHasRoom room s → LineHasRoom room t
room-ended ended has = record {
  signs = omega (arith, ap (λ (x : LineCells). vec_capacity x.signs) ended.line, has.signs);
  cells = omega (arith, ended.capacity, has.cells);
  cut = omega (arith, ended.cut_capacity, has.cut);
  fronts = omega (arith, ap (λ (x : LineCells). vec_capacity x.fronts) ended.line, has.fronts);
  columns = omega (arith, ap (λ (x : LineCells). vec_capacity x.columns) ended.line, has.columns);
  keys = omega (arith, ap (λ (x : LineCells). vec_capacity x.keys) ended.line, has.keys);
  entries = omega (arith, ap (λ (x : LineCells). vec_capacity x.entries) ended.line, has.entries);
  places = omega (arith, ap (λ (x : LineCells). vec_capacity x.places) ended.line, has.places);
}

pub row-ended : {s t : LineCells} → Ended s t → IsNoRow (kept_line s) → IsNoRow (kept_line t)
row-ended ended none = record {
  columns = ap (λ (x : LineCells). x.columns.items) ended.line ∙ none.columns;
  keys = ap (λ (x : LineCells). x.keys.items) ended.line ∙ none.keys;
  entries = ap (λ (x : LineCells). x.entries.items) ended.line ∙ none.entries;
  places = ap (λ (x : LineCells). x.places.items) ended.line ∙ none.places;
}

-- what is cut stays cut, where cells are put in order and given as a row
pub cut-kept : (columns : ℕ) (cut : List Left) (s t u : LineCells) → t ≡ record s { cells = t.cells } → kept_line u ≡ as_row (kept_line t)
    → CutOn columns (kept_line s) cut → CutOn columns (kept_line u) cut
cut-kept columns cut s t u order row on =
    subst (λ (line : KeptLine). CutOn columns line cut) (sym row)
    (subst (λ (x : LineCells). CutOn columns (as_row (kept_line x)) cut) (sym order) (record { ends = on.ends; first = on.first }))
