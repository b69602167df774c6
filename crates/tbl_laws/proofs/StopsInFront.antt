-- What has no width stops in front of the cells of its row in which something stands.
use Rattle.std.proofs.Common.{◌≡◌, ℕ, suc, ◌≤◌, min, Bool, true, false, not, ◌&&◌, List, [], ◌∷◌, map, refl, sym, ap, ◌∙◌, arith, if◌then◌else◌}
use Rattle.tbl_format.specs.Cells.{AreCells}
use Rattle.tbl_format.specs.declared.format.FormatKey.{FormatKey}
use Rattle.tbl_laws.specs.RunningOn.{AreFree, GoOnInFront, StopInFront}
use Rattle.tbl_layout.specs.Entries.{Element}
use Rattle.tbl_lines.specs.CellsLeft.{Left, all_stopped, first_used, goes_on, stop_below}

abbrev keys_of : List Left → List FormatKey
keys_of cells = map (λ (c : Left). c.key) cells

free-min : (less stop from : ℕ) (cells : List Left) → less ≤ stop → AreFree stop from cells → AreFree less from cells
free-min less stop from [] le free = tt
free-min less stop from (c ∷ cells) le free =
    (λ used. omega (arith, le, free.0 used), free-min less stop c.key.end cells le free.1)

all-free : (stop from : ℕ) (cells : List Left) → stop ≤ from → AreCells from (keys_of cells) → AreFree stop from cells
all-free stop from [] le order = tt
all-free stop from (c ∷ cells) le order = (λ used. le, all-free stop c.key.end cells (omega (arith, le, order.0)) order.1)

-- the first in which something stands
first-by : (t : Bool) (from further : ℕ) (c : Left) (cells : List Left) → c.is_used ≡ t → AreCells from (keys_of (c ∷ cells))
    → AreFree further c.key.end cells → AreFree (if t then from else further) from (c ∷ cells)
first-by true from further c cells is order free = (λ used. omega arith, all-free from c.key.end cells (omega (arith, order.0)) order.1)
first-by false from further c cells is order free = (λ used. absurd (cc (sym is ∙ used)), free)

first-free : (none from : ℕ) (cells : List Left) → AreCells from (keys_of cells) → AreFree (first_used none from cells) from cells
first-free none from [] order = tt
first-free none from (c ∷ cells) order =
    first-by c.is_used from (first_used none c.key.end cells) c cells refl order (first-free none c.key.end cells order.1)

module _ (columns : ℕ) (keys : List FormatKey) (elements : List Element) where
  free-by : (t : Bool) (stop from place : ℕ) (c : Left) (cells : List Left) → AreFree stop from (c ∷ [])
      → AreFree stop c.key.end cells → AreFree stop from ((if t then record c { stop = place } else c) ∷ cells)
  free-by true stop from place c cells here free = (here.0, free)
  free-by false stop from place c cells here free = (here.0, free)

  free-stopped : (stop from cell : ℕ) (cells : List Left) → AreFree stop from cells → AreFree stop from (all_stopped columns keys elements cell cells)
  free-stopped stop from cell [] free = tt
  free-stopped stop from cell (c ∷ cells) free =
      free-by (c.key.has_no_width && not (goes_on c)) stop from (min (first_used columns c.key.end cells) (stop_below columns keys cell elements)) c
      (all_stopped columns keys elements (suc cell) cells) (free.0, tt) (free-stopped stop c.key.end (suc cell) cells free.1)

  stop-by : (t on : Bool) (place : ℕ) (c : Left) (cells : List Left) → (c.key.has_no_width && not (goes_on c)) ≡ t → goes_on c ≡ on
      → AreFree place c.key.end cells → (goes_on c ≡ true → c.key.has_no_width ≡ true → AreFree c.stop c.key.end cells) → StopInFront cells
      → StopInFront ((if t then record c { stop = place } else c) ∷ cells)
  stop-by true on place c cells is goes free still others = (λ plain. free, others)
  stop-by false true place c cells is goes free still others = (still goes, others)
  stop-by false false place c cells is goes free still others = (
    λ plain.
        let both : (c.key.has_no_width && not (goes_on c)) ≡ true = ap (λ (t : Bool). t && not (goes_on c)) plain ∙ ap not goes in
        absurd (cc (sym both ∙ is)),
    others,
  )

  pub stops-in-front : (cell from : ℕ) (cells : List Left) → AreCells from (keys_of cells) → GoOnInFront cells
      → StopInFront (all_stopped columns keys elements cell cells)
  stops-in-front cell from [] order begin = tt
  stops-in-front cell from (c ∷ cells) order begin =
      let first = first_used columns c.key.end cells in
      let place = min first (stop_below columns keys cell elements) in
      let others = all_stopped columns keys elements (suc cell) cells in
      stop-by (c.key.has_no_width && not (goes_on c)) (goes_on c) place c others refl refl
      (free-min place first c.key.end others (omega arith)
      (free-stopped first c.key.end (suc cell) cells (first-free columns c.key.end cells order.1)))
      (λ goes plain. free-stopped c.stop c.key.end (suc cell) cells (begin.0 goes plain))
      (stops-in-front (suc cell) c.key.end cells order.1 begin.1)
