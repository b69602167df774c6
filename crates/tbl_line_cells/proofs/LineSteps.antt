-- What laying a column leaves of a line as it was, and how much it adds.
use Rattle.std.proofs.Common.{◌≡◌, ℕ, suc, ◌+◌, ◌≤◌, ◌<◌, sym, ap, ◌∙◌, arith}
use Rattle.tbl_line_cells.specs.declared.line_cells.LineCells.{LineCells}
use Rattle.tbl_line_cells.proofs.CellsOver.{split}

-- cells and fronts alone change
pub line-next : (f s t u : LineCells) → s ≡ record f { cells = s.cells; has_running = s.has_running; fronts = s.fronts }
    → t ≡ record s { cells = t.cells; has_running = t.has_running } → u ≡ record t { fronts = u.fronts }
    → u ≡ record f { cells = u.cells; has_running = u.has_running; fronts = u.fronts }
line-next f s t u first second third =
    third
    ∙ ap (λ (x : LineCells). record x { fronts = u.fronts }) second
    ∙ ap (λ (x : LineCells). record x { cells = t.cells; has_running = t.has_running; fronts = u.fronts }) first
    ∙ ap (λ (x : LineCells). record f { cells = x.cells; has_running = x.has_running; fronts = u.fronts }) (sym third)

-- a front more, but not behind the last column
pub most-fronts : (at count old new : ℕ) → at < count → old ≤ suc at → old ≤ count → new ≤ suc old → (at + 1 ≡ count → new ≡ old) → new ≤ count
most-fronts at count old new within few most more last =
    split (new ≤ count) (at + 1) count (omega (arith, within)) (λ is. omega (arith, last is, most)) (λ less. omega (arith, less, few, more))
