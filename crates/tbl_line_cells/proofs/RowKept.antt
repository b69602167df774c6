-- What stays where cells of a line are laid, and how much room there is.
use Rattle.std.proofs.Common.{◌≡◌, ℕ, ◌≤◌, ap, ◌∙◌, arith, vec_capacity}
use Rattle.tbl_line_cells.specs.LinesDrawn.{LineHasRoom, IsNoRow, KeepsRow, kept_line}
use Rattle.tbl_line_cells.specs.declared.line_cells.LineCells.{LineCells}

pub keeps-front : (old new : LineCells) → new ≡ record old { fronts = new.fronts } → vec_capacity new.fronts ≡ vec_capacity old.fronts
    → KeepsRow old new
keeps-front old new is room = record {
  signs = ap (λ (x : LineCells). x.signs) is;
  cells = ap (λ (x : LineCells). vec_capacity x.cells) is;
  cut = ap (λ (x : LineCells). x.cut) is;
  first_cut = ap (λ (x : LineCells). x.first_cut) is;
  fronts = room;
  columns = ap (λ (x : LineCells). x.columns) is;
  keys = ap (λ (x : LineCells). x.keys) is;
  entries = ap (λ (x : LineCells). x.entries) is;
  places = ap (λ (x : LineCells). x.places) is;
}

pub keeps-cell : (old new : LineCells) → new ≡ record old { cells = new.cells; has_running = new.has_running }
    → vec_capacity new.cells ≡ vec_capacity old.cells → KeepsRow old new
keeps-cell old new is room = record {
  signs = ap (λ (x : LineCells). x.signs) is;
  cells = room;
  cut = ap (λ (x : LineCells). x.cut) is;
  first_cut = ap (λ (x : LineCells). x.first_cut) is;
  fronts = ap (λ (x : LineCells). vec_capacity x.fronts) is;
  columns = ap (λ (x : LineCells). x.columns) is;
  keys = ap (λ (x : LineCells). x.keys) is;
  entries = ap (λ (x : LineCells). x.entries) is;
  places = ap (λ (x : LineCells). x.places) is;
}

pub keeps-cells : (old new : LineCells) → new ≡ record old { cells = new.cells; has_running = new.has_running; fronts = new.fronts }
    → vec_capacity new.cells ≡ vec_capacity old.cells → vec_capacity new.fronts ≡ vec_capacity old.fronts → KeepsRow old new
keeps-cells old new is room room_fronts = record {
  signs = ap (λ (x : LineCells). x.signs) is;
  cells = room;
  cut = ap (λ (x : LineCells). x.cut) is;
  first_cut = ap (λ (x : LineCells). x.first_cut) is;
  fronts = room_fronts;
  columns = ap (λ (x : LineCells). x.columns) is;
  keys = ap (λ (x : LineCells). x.keys) is;
  entries = ap (λ (x : LineCells). x.entries) is;
  places = ap (λ (x : LineCells). x.places) is;
}

pub keeps-then : (old mid new : LineCells) → KeepsRow old mid → KeepsRow mid new → KeepsRow old new
keeps-then old mid new first next = record {
  signs = next.signs ∙ first.signs;
  cells = next.cells ∙ first.cells;
  cut = next.cut ∙ first.cut;
  first_cut = next.first_cut ∙ first.first_cut;
  fronts = next.fronts ∙ first.fronts;
  columns = next.columns ∙ first.columns;
  keys = next.keys ∙ first.keys;
  entries = next.entries ∙ first.entries;
  places = next.places ∙ first.places;
}

pub room-kept : {room : ℕ} {old new : LineCells} → KeepsRow old new → LineHasRoom room old → LineHasRoom room new
room-kept keeps has = record {
  signs = omega (arith, has.signs, ap vec_capacity keeps.signs);
  cells = omega (arith, has.cells, keeps.cells);
  cut = omega (arith, has.cut, ap vec_capacity keeps.cut);
  fronts = omega (arith, has.fronts, keeps.fronts);
  columns = omega (arith, has.columns, ap vec_capacity keeps.columns);
  keys = omega (arith, has.keys, ap vec_capacity keeps.keys);
  entries = omega (arith, has.entries, ap vec_capacity keeps.entries);
  places = omega (arith, has.places, ap vec_capacity keeps.places);
}

pub room-less : {room less : ℕ} {c : LineCells} → less ≤ room → LineHasRoom room c → LineHasRoom less c
room-less few has = record {
  signs = omega (arith, few, has.signs);
  cells = omega (arith, few, has.cells);
  cut = omega (arith, few, has.cut);
  fronts = omega (arith, few, has.fronts);
  columns = omega (arith, few, has.columns);
  keys = omega (arith, few, has.keys);
  entries = omega (arith, few, has.entries);
  places = omega (arith, few, has.places);
}

pub row-kept : {old new : LineCells} → KeepsRow old new → IsNoRow (kept_line old) → IsNoRow (kept_line new)
row-kept keeps none = record {
  columns = ap (λ v. v.items) keeps.columns ∙ none.columns;
  keys = ap (λ v. v.items) keeps.keys ∙ none.keys;
  entries = ap (λ v. v.items) keeps.entries ∙ none.entries;
  places = ap (λ v. v.items) keeps.places ∙ none.places;
}
