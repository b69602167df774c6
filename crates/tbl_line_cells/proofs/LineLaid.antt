-- A line that is laid from the left: one cell or front more.
use Rattle.std.proofs.Common.{◌≡◌, ℕ, Bool, true, false, ◌||◌, List, [], ◌∷◌, ◌++◌, map, Option, None, Some, refl, sym, ap, subst, ◌∙◌, is_some}
use Rattle.std.specs.List.{AllByRecursion, list_any}
use Rattle.std.proofs.lemmas.List.Folds.{list_any-append}
use Rattle.tbl_lines.specs.CellsLeft.{Left}
use Rattle.tbl_lines.specs.LinesLeft.{Shown}
use Rattle.tbl_lines.specs.PictureLines.{Cell}
use Rattle.tbl_lines.specs.RowsLeft.{cell_of_front}
use Rattle.tbl_lines.specs.RowsWalked.{HasBars}
use Rattle.tbl_lines.specs.declared.fronts.Front.{Front}
use Rattle.tbl_line_cells.specs.LaidCells.{IsShown, RunsAs, on_line}
use Rattle.tbl_line_cells.specs.LinesDrawn.{AreDrawn, AreShown, KeptLine, SoFar}
use Rattle.tbl_line_cells.specs.declared.laid_cells.LaidCell.{LaidCell}
use Rattle.tbl_line_cells.specs.declared.laid_cells.RunsOn.{RunsOn}

more-shown : (bytes : List ℕ) (cells : List LaidCell) (done : List Shown) (c : LaidCell) (s : Shown) → AreShown bytes cells done
    → IsShown bytes c s → AreShown bytes (cells ++ c ∷ []) (done ++ s ∷ [])
more-shown bytes [] [] c s all is = (is, tt)
more-shown bytes [] (t ∷ done) c s all is = absurd all
more-shown bytes (d ∷ cells) [] c s all is = absurd all
more-shown bytes (d ∷ cells) (t ∷ done) c s all is = (all.0, more-shown bytes cells done c s all.1 is)

pub runs-some : (bytes : List ℕ) (c : LaidCell) (s : Shown) (r : Option RunsOn) (own : Option Left) → RunsAs bytes c s r own
    → is_some r ≡ is_some own
runs-some bytes c s None None runs = refl
runs-some bytes c s None (Some own) runs = absurd runs
runs-some bytes c s (Some r) None runs = absurd runs
runs-some bytes c s (Some r) (Some own) runs = refl

pub or-false : (a : Bool) → (a || false) ≡ a
or-false true = refl
or-false false = refl

abbrev runs : Shown → Bool
runs s = is_some s.runs_on

-- a cell more
pub cell-so-far : (bytes : List ℕ) (old new : KeptLine) (c : LaidCell) (s : Shown) (done : List Shown) (fronts : List Cell)
    → IsShown bytes c s → SoFar bytes old done fronts → new.cells ≡ old.cells ++ c ∷ []
    → new.has_running ≡ (old.has_running || is_some c.runs_on) → new.fronts ≡ old.fronts → SoFar bytes new (done ++ s ∷ []) fronts
cell-so-far bytes old new c s done fronts is so_far cells running fronts_are = record {
  cells = subst (λ (cs : List LaidCell). AreShown bytes cs (done ++ s ∷ [])) (sym cells)
      (more-shown bytes old.cells done c s so_far.cells is);
  running = running
      ∙ ap (λ (b : Bool). b || is_some c.runs_on) so_far.running
      ∙ ap (λ (b : Bool). list_any runs done || b) (runs-some bytes c s c.runs_on s.runs_on is.running ∙ sym (or-false (is_some s.runs_on)))
      ∙ sym (list_any-append runs done (s ∷ []));
  front = record {
    in_front = ap (map (λ (f : Front). on_line (cell_of_front f))) fronts_are ∙ so_far.front.in_front;
    some = subst (AllByRecursion HasBars) (sym fronts_are) so_far.front.some;
  };
}

-- where nothing runs on, all is drawn
pub shown-drawn : (bytes : List ℕ) (cells : List LaidCell) (done : List Shown) → AreShown bytes cells done → AreDrawn bytes cells done
shown-drawn bytes [] [] all = tt
shown-drawn bytes [] (s ∷ done) all = absurd all
shown-drawn bytes (c ∷ cells) [] all = absurd all
shown-drawn bytes (c ∷ cells) (s ∷ done) all = (all.0.drawn, shown-drawn bytes cells done all.1)
