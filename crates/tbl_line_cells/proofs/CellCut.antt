-- A cell of a line in which something runs on is cut, or fits.
use Rattle.std.proofs.Common.{◌≡◌, ℕ, List, Option, None, Some, refl, sym, subst, arith}
use Rattle.tbl_lines.specs.CellsLeft.{Left}
use Rattle.tbl_lines.specs.LinesLeft.{Shown, cut_to}
use Rattle.tbl_line_cells.specs.LaidCells.{IsDrawn, IsShown, RunsAs}
use Rattle.tbl_line_cells.specs.LinesDrawn.{shown_in}
use Rattle.tbl_line_cells.specs.declared.laid_cells.LaidCell.{LaidCell}
use Rattle.tbl_line_cells.specs.declared.laid_cells.RunsOn.{RunsOn}

-- something does
pub record RunsBy (bytes : List ℕ) (c : LaidCell) (s : Shown) (r : RunsOn) (o : Option Left) : Type 0 where
  pub own : Left
  pub shown : o ≡ Some own
  pub running : RunsAs bytes c s (Some r) (Some own)

runs-by : (bytes : List ℕ) (c : LaidCell) (s : Shown) (r : RunsOn) (o : Option Left) → RunsAs bytes c s (Some r) o → RunsBy bytes c s r o
runs-by bytes c s r None runs = absurd runs
runs-by bytes c s r (Some own) runs = record { own = own; shown = refl; running = runs }

pub runs-own : (bytes : List ℕ) (c : LaidCell) (s : Shown) (r : RunsOn) → IsShown bytes c s → c.runs_on ≡ Some r → RunsBy bytes c s r s.runs_on
runs-own bytes c s r is kept = runs-by bytes c s r s.runs_on (subst (λ (x : Option RunsOn). RunsAs bytes c s x s.runs_on) kept is.running)

-- it is cut
pub cut-drawn : (bytes : List ℕ) (c fits : LaidCell) (s : Shown) (room : ℕ) (own : Left) (o : Option Left) → o ≡ Some own → c ≡ fits
    → IsDrawn bytes fits (cut_to room own s) → IsDrawn bytes c (shown_in room o s)
cut-drawn bytes c fits s room own o shown same drawn =
    subst (λ (x : Option Left). IsDrawn bytes c (shown_in room x s)) (sym shown)
    (subst (λ (d : LaidCell). IsDrawn bytes d (cut_to room own s)) (sym same) drawn)
